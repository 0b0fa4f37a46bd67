-- Requests that are sent again, and what they are answered.
mod Fields
unfoldable pub use Fields.*

-- ==== What a request that is sent again has in common with the first, at another time.

abbrev reading : Protocol → Option Line → List ℕ → LineMap → Asked
reading p authority method fields =
    record { protocol = p; method = method; authority = authority; content = Absent; fields = fields; denied = None }

missing_as_get : (s : State) (rules : List MethodRule)
    → is_missing s rules (rule_for rules (codes "HEAD")) (codes "HEAD")
    ≡ is_missing s rules (rule_for rules (codes "GET")) (codes "GET")
unfolding rule_for
missing_as_get s rules = grind (arith, s)

read_as_get : (present : ℕ) (resource : Resource) (protocol : Protocol) (authority : Option Line) (fields : LineMap)
    (method : List ℕ) → IsGetOrHead method → (reason : Reason)
    → applies present resource (reading protocol authority method fields) reason
    ≡ applies present resource (reading protocol authority (codes "GET") fields) reason
unfolding rule_for is_unacceptable
read_as_get present resource protocol authority fields method read reason =
    let missing = missing_as_get resource.state resource.rules.items in grind (arith, reason)

module _ {A B : Type 0} (f : A → ℕ) (g : B → ℕ) where
  score_at : (xs : List A) (ys : List B) → map f xs ≡ map g ys → length xs ≡ length ys → (k : ℕ) (a : A) (b : B)
      → k < length xs → f (get_or xs k a) ≡ g (get_or ys k b)
  score_at xs ys e len k a b low = sym (get_or-map f xs k a 0 low) ∙ ap (λ (l : List ℕ). get_or l k 0) e
      ∙ get_or-map g ys k b 0 (omega (arith, low, len))

  picks_across : (xs : List A) (ys : List B) → map f xs ≡ map g ys → length xs ≡ length ys → (choice : Option ℕ)
      → Picks f xs choice → Picks g ys choice
  picks_across [] ys e len choice h = grind (arith, choice)
  picks_across (x ∷ xs) ys e len choice h =
      let at : (k : ℕ) (y : B) → k < length (x ∷ xs) → f (get_or (x ∷ xs) k x) ≡ g (get_or ys k y) =
      λ k y low. score_at (x ∷ xs) ys e len k x y low in grind (arith, choice)

-- a choice is at the same place in lists of one length
place_alike : (s : State) (xs ys : List Representation) → length xs ≡ length ys → (choice : Option ℕ)
    → place_in s xs choice ≡ place_in s ys choice
place_alike s xs ys len choice = grind (arith, s, xs, ys, choice)

-- what a label is worth
abbrev by_label : Negotiation → LineMap → Label → ℕ
by_label n fields label =
    joined (rank_by (quality_by media_type_says) n.media_type (fields (codes "accept")) (Some label.media_type.bytes))
    (rank_by (quality_by language_says) n.language (fields (codes "accept-language")) None)
    (rank_by encoding_quality n.coding (fields (codes "accept-encoding"))
    (Some (option_map_or (λ (value : FieldValue). value.bytes) (coding_value label.coding) (codes "identity"))))

scores_are : (n : Negotiation) (fields : LineMap) (present : ℕ) (fs : List File)
    → map (score n fields) (map (representation_of present) fs) ≡ map (by_label n fields) (map label_of fs)
unfolding score
scores_are n fields present [] = refl
scores_are n fields present (x ∷ fs) = λ i. by_label n fields (label_of x) ∷ scores_are n fields present fs i

-- the fields by which a read is decided before its conditions
abbrev pub deciding : List (List ℕ)
deciding = codes "host" ∷ codes "expect" ∷ codes "accept" ∷ codes "accept-language" ∷ codes "accept-encoding" ∷ []

abbrev pub tag_lines : Target → List Line
tag_lines target = lines_sent (λ (tag : FieldValue). tag.bytes) (etag_of target)

labels_at : (fs gs : List File) (place : Option ℕ) → map label_of fs ≡ map label_of gs
    → option_map label_of (file_at fs place) ≡ option_map label_of (file_at gs place)
labels_at fs gs place labels = grind (arith, place, slice_get-map label_of)

-- where a response has a tag, there is a file, and where another has the same label, too
two_files : (s : State) (present : ℕ) (tag : Line) (p q : Option File) → option_map label_of p ≡ option_map label_of q
    → tag_lines (target_of s (option_map (representation_of present) p)) ≡ tag ∷ []
    → (f : File) × (g : File) × (p ≡ Some f) × (q ≡ Some g) × (label_of f ≡ label_of g)
two_files s present tag p q e told = grind (arith, s, p, q)

-- ==== A field line that is one entity tag names it.

octets_text : (bytes : List ℕ) → flat_map octet_text (map Plain bytes) ≡ bytes
octets_text bytes = simp (flat_map-map, flat_map_single, map-id)

octet_valid : (b : ℕ) → is_tag_byte b ≡ true → is_octet false (Plain b) ≡ true
octet_valid b e = grind (arith, nat_tests)

octets_valid : (bytes : List ℕ) → list_all is_tag_byte bytes ≡ true → list_all (is_octet false) (map Plain bytes) ≡ true
octets_valid [] all = refl
octets_valid (b ∷ bytes) all = grind (arith, octet_valid b, octets_valid bytes)

-- the line as an element of a list
abbrev element_of : Bool → List ℕ → Element
element_of true opaque = Byte 87 ∷ Byte 47 ∷ Quoted (map Plain opaque) ∷ []
element_of false opaque = Quoted (map Plain opaque) ∷ []

element_is : (is_weak : Bool) (opaque : List ℕ) (tag : Line) → list_all is_tag_byte opaque ≡ true
    → tag ≡ weak_prefix is_weak ++ quote ∷ (opaque ++ quote ∷ []) → (element_text (element_of is_weak opaque) ≡ tag)
    × (list_all (is_element comma false) (element_of is_weak opaque ∷ []) ≡ true) × (0 < length tag)
element_is is_weak opaque tag all e = grind (arith, is_weak, append_assoc, octets_text opaque, octets_valid opaque all)

module _ (parse : ParsesOneWay) (tag : Line) (parts : TagParts) (is : IsTag tag parts) where
  one_member : field_members false (tag ∷ []) ≡ Whole tag ∷ []
  one_member =
      let item = element_of parts.is_weak parts.opaque in
      let all = list_all-from_AllPass is_tag_byte parts.opaque is.opaque in
      let element = element_is parts.is_weak parts.opaque tag all is.text in
      let plain : IsSeparator comma = record { value = refl; not_quote = refl; quote_not = refl } in
      let cut = (parse comma false item [] plain element.1).1 in
      let trimmed = trim_bare_text tag (tag_is_bare tag parts.opaque parts.is_weak is) in
      grind (arith, nat_tests, append-nil)

  -- a test of the one member decides for the line
  named_by : (test : _ → Bool) → test (Whole tag) ≡ true
      → (is_star (tag ∷ []) || (are_tags (tag ∷ []) && list_any test (field_members false (tag ∷ [])))) ≡ true
  named_by test passes = simp (one_member, is_tag-true tag parts is, passes, or-true)

  -- the field line of a representation's own tag names it
  module _ (validators : Validators) (own : lines_sent (λ (t : FieldValue). t.bytes) validators.etag ≡ tag ∷ []) where
    weakly_named : IfNoneMatchIsFalse (λ (name : List ℕ). tag ∷ []) (Current validators)
    weakly_named = grind (arith, named_by, weakly_equal tag tag, is)

    strongly_named : parts.is_weak ≡ false → IfMatchIsTrue (λ (name : List ℕ). tag ∷ []) (Current validators)
    strongly_named strong = grind (arith, named_by, strongly_equal tag tag, is)

-- ==== The tag of a response, and a request that names it.

module _ (present : ℕ) (resource : Resource) (asked : Asked) (read : IsGetOrHead asked.method) (tag : Line) where
  -- the answer sends the tag of what is selected, which is as the request would have it
  record IsTagged (reason : Reason) : Type 0 where
    admits : reason ≡ Admitted
    place : Option ℕ
    selected : IsSelected resource asked.fields place
    kept : StateIsKept present asked.fields (seen_at resource place)
    tagged : tag_lines (seen_at resource place) ≡ tag ∷ []

  -- a response with a tag has that of the target, which is as the request would have it
  tag_of_plan : (target : Target) (len : ℕ) (limits : RangeLimits) (plan : Plan)
      → IsPlan present asked.method asked.fields target len limits plan
      → lines_sent (λ (t : FieldValue). t.bytes) (etag_sent plan (etag_of target)) ≡ tag ∷ []
      → StateIsKept present asked.fields target × (tag_lines target ≡ tag ∷ [])
  tag_of_plan target len limits plan h e = grind (arith, plan, never_unconditional)

  tagged_by : (admitted : Bool) (reason : Reason) (status : Option ℕ) (sent : Sends) (own : List Field)
      → is_admitted reason ≡ admitted → GivesIf admitted present resource asked reason status sent own
      → given_under true resource sent ≡ tag ∷ [] → IsTagged reason
  tagged_by true reason status sent own is g told = record {
    admits = grind (arith, reason);
    place = g.place;
    selected = g.selected;
    kept = both.0;
    tagged = both.1;
  }
    where
      both : StateIsKept present asked.fields (seen_at resource g.place)
          × (tag_lines (seen_at resource g.place) ≡ tag ∷ [])
      both = let goes = g.goes in grind (arith, goes.response, tag_of_plan)
  tagged_by false reason status sent own is g told = grind (arith, none_stopped)

-- at another time the state is kept for the same fields
kept_again : (now later : ℕ) (f g : LineMap) (v w : Validators) → v.etag ≡ w.etag
    → f (codes "if-match") ≡ g (codes "if-match") → g (codes "if-unmodified-since") ≡ []
    → StateIsKept now f (Current v) → StateIsKept later g (Current w)
kept_again now later f g v w tag same none h = grind arith

not_modified_by : (present : ℕ) (g : LineMap) (v : Validators) (method : List ℕ) (tag : Line) → IsGetOrHead method
    → StateIsKept present g (Current v) → g (codes "if-none-match") ≡ tag ∷ []
    → IfNoneMatchIsFalse (λ (name : List ℕ). tag ∷ []) (Current v)
    → Answers present g (Current v) method precondition.NotModified
not_modified_by present g v method tag read kept line named = grind (arith, never_unconditional)

never_failed : (present : ℕ) (g : LineMap) (v : Validators) (method : List ℕ) (tag : Line) → IsGetOrHead method
    → g (codes "if-match") ≡ tag ∷ [] → IfMatchIsTrue (λ (name : List ℕ). tag ∷ []) (Current v)
    → ¬ (Answers present g (Current v) method precondition.Failed)
never_failed present g v method tag read line named failed = grind (arith, never_unconditional)

code_plan : (plan : Plan) → (status_of plan ≡ 304 → plan ≡ NotModified) × (status_of plan ≡ 412 → plan ≡ Failed)
code_plan plan = grind (arith, plan)

module _ (present : ℕ) (method : List ℕ) (g : LineMap) (v : Validators) (content : Content)
    (boundary : FieldValue) where
  not_modified : (response : Option Planning) → Answers present g (Current v) method precondition.NotModified
      → IsAnswered present method g (Current v) content boundary response
      → (r : Planning) × (response ≡ Some r) × (r.status ≡ 304) × (r.plan ≡ NotModified)
  not_modified None decided h =
      absurd (one_plan present method g (Current v) (divisible_len content) (limits_of content) None (Some NotModified)
      h decided)
  not_modified (Some r) decided h =
      let same = one_plan present method g (Current v) (divisible_len content) (limits_of content) (Some r.plan)
      (Some NotModified) h.plan decided in
      (r, refl, h.status ∙ same.0, (code_plan r.plan).0 same.0)

  not_failed : (response : Option Planning) → ¬ (Answers present g (Current v) method precondition.Failed)
      → IsAnswered present method g (Current v) content boundary response → (absent : ℕ)
      → status_for absent Admitted (status_sent response) ≢ 412
  not_failed response passes h absent is = grind (arith, response, code_plan)

-- if nothing else decides, that does
only_admitted : (test : Reason → Bool) (reason : Reason)
    → ((other : Reason) → Before other Admitted → test other ≡ false) → IsFirst test reason → reason ≡ Admitted
only_admitted test reason none is = grind (arith, reason)

-- ==== What a request finds in two stores that have something similar where it looks.

-- what was found has the same state, and files with the same labels in their order
record AreSeenAlike (s t : State) (fs gs : List File) : Type 0 where
  state : s ≡ t
  labels : map label_of fs ≡ map label_of gs

-- what is offered of something similar has the same labels
offered_similar : (m n : FieldValue) (coding : Coding) (e f : Entry) → m ≡ n → AreSimilar e f
    → map label_of (offered m coding e) ≡ map label_of (offered n coding f)
offered_similar m n coding e f same similar = grind (arith, e)

module _ (look other : List ℕ → Entry) where
  stands_similar : (path : List ℕ) (e f : Entry) → AreSimilar (look path) (other path)
      → HasEntryAt (has_at look) path e → HasEntryAt (has_at other) path f → AreSimilar e f
  stands_similar path e f similar h k = grind arith

  contents_similar : (negotiates : Bool) (path : List ℕ) (a b : File) (fs gs : List File) → label_of a ≡ label_of b
      → ((coding : Coding) → negotiates ≡ true
      → AreSimilar (look (path ++ coding_suffix coding)) (other (path ++ coding_suffix coding)))
      → AreContents negotiates (has_at look) path a fs → AreContents negotiates (has_at other) path b gs
      → map label_of fs ≡ map label_of gs
  contents_similar negotiates path a b fs gs same beside h k =
      grind (arith, negotiates, offered_similar, stands_similar, map-append, beside Brotli, beside Gzip)

  module _ (negotiates : Bool) (uri : Uri) (similar : HaveSimilar negotiates (uri_path uri) look other) where
    files_similar : (named : List ℕ) → Names (uri_path uri) (Some named) → (a b : File) → label_of a ≡ label_of b
        → (f g : _) → FindsEntry negotiates (has_at look) uri named (Readable a) f
        → FindsEntry negotiates (has_at other) uri named (Readable b) g
        → AreSeenAlike f.state g.state f.files.items g.files.items
    files_similar named names a b same f g h k = grind (arith, contents_similar, similar)

    leads_similar : (f g : _) → LeadsTo negotiates (has_at look) uri f → LeadsTo negotiates (has_at other) uri g
        → AreSeenAlike f.state g.state f.files.items g.files.items
    leads_similar f g h k = grind (arith, files_similar, similar)

module _ (content : List ℕ) (tag : Line) where
  -- the tag is their digest
  abbrev IsDigest : Type 0
  IsDigest = (tag ≡ strong_tag (content_digest content))
      × IsTag tag (record { is_weak = false; opaque = content_digest content })

  digest_tag : strong_tag (content_digest content) ≡ tag → IsDigest
  digest_tag same =
      let digits = content_digest content in
      let passes = passes_from_text (strong_tag digits) (record { is_weak = false; opaque = digits }) refl
      (tag_is_tag digits (digest_is_boundary content)) in
      grind arith

kept_tag_of : (s : State) (present : ℕ) (kept : Kept) (tag : Line) (plan : Plan) (file : Option File)
    → Some (InMemory kept) ≡ source_of file → lines_sent (λ (t : FieldValue). t.bytes)
    (etag_sent plan (etag_of (target_of s (option_map (representation_of present) file)))) ≡ tag ∷ []
    → IsDigest kept.content tag
kept_tag_of s present kept tag plan file e told = grind (arith, file, plan, digest_tag kept.content tag)

module _ {now : Option ℕ} {left : ℕ} {site : Site} {has : List ℕ → Entry → Type 0} {request : Request (List ℕ)}
    {response : Response} {kept : Kept} {tag : Line}
    (x : IsAnswerAt now left site has request response (Some (InMemory kept)))
    (told : lines_in (fields_of response) etag ≡ tag ∷ []) where
  pub kept_tag : IsDigest kept.content tag
  kept_tag = by x.answer.sends x.opens (sym (tags_carried x) ∙ told)
    where
      by : (sent : Sends) → Some (InMemory kept) ≡ source_sent x.found.files.items sent
          → given_under true (resource x) sent ≡ tag ∷ [] → IsDigest kept.content tag
      by (Planned place plan) e told = kept_tag_of _ _ _ _ _ _ e (rw (at_file x place) at told)
      by sent e told = absurd (cc e)

no_pieces : (divider : List ℕ) (file : Option File) → pieces_of divider file NotModified ≡ []
no_pieces divider file = grind (arith, file)

-- what is asked, where the first request names the same authority in the same version
asks_so : (request : Request (List ℕ)) (x asked : Asked) → Asks request x
    → HasAuthority (uri_authority (head_of request).uri) asked.authority
    → IsProtocolOf (head_of request).version asked.protocol
    → x ≡ reading asked.protocol asked.authority (head_of request).method (lines_at (head_of request).headers)
asks_so request x asked asks named protocol = grind (arith, asked_once request x)

-- an answer to a read
abbrev IsReadBy : ℕ → Resource → Protocol → Option Line → LineMap → Answer → Type 0
IsReadBy present resource protocol authority fields answer = (method : List ℕ) × IsGetOrHead method
    × IsAnswer present resource (reading protocol authority method fields) answer

read_answer : {now : Option ℕ} {left : ℕ} {site : Site} {has : List ℕ → Entry → Type 0} {request : Request (List ℕ)}
    {response : Response} {source : Option Source} (x : IsAnswerAt now left site has request response source)
    → IsGetOrHead (head_of request).method → (protocol : Protocol) (authority : Option Line)
    → x.asked ≡ reading protocol authority (head_of request).method (lines_at (head_of request).headers)
    → IsReadBy (present x) (resource x) protocol authority (lines_at (head_of request).headers) x.answer
read_answer {request = request} x read protocol authority is = elim (rw (is, x.described.is) at x.decides) [
  | inl h ↦ ((head_of request).method, read, h.1)
  | inr h ↦ (codes "HEAD", inr refl, h.3)
]

module _ {now later : Option ℕ} {left more : ℕ} {site : Site} {look other : List ℕ → Entry}
    {first second : Request (List ℕ)} {r s : Response} {a b : Option Source} {name : List ℕ} {tag : Line}
    (again : IsAgain name tag first second)
    (similar : HaveSimilar site.resource.negotiation.coding (uri_path (head_of first).uri) look other)
    (x : IsAnswerAt now left site (has_at look) first r a)
    (y : IsAnswerAt later more site (has_at other) second s b)
    (told : lines_in (fields_of r) (codes "etag") ≡ tag ∷ [])
    (free : list_any (bytes_eq name) deciding ≡ false) where
  abbrev f : LineMap
  f = lines_at (head_of first).headers

  abbrev g : LineMap
  g = lines_at (head_of second).headers

  abbrev before : Resource
  before = record site.resource { state = y.found.state; representations = x.described.representations }

  abbrev after : Resource
  after = resource y

  abbrev asks : List ℕ → LineMap → Asked
  asks method fields = reading y.asked.protocol y.asked.authority method fields

  alike : AreSeenAlike x.found.state y.found.state x.found.files.items y.found.files.items
  alike = leads_similar look other site.resource.negotiation.coding (head_of first).uri similar x.found y.found x.leads
      (rw again.uri at y.leads)

  same : (name : List ℕ) → list_any (bytes_eq name) deciding ≡ true → f name ≡ g name
  same = grind arith

  first_read : IsReadBy (present x) before y.asked.protocol y.asked.authority f x.answer
  first_read = rw (← alike.state) (read_answer x again.read y.asked.protocol y.asked.authority
      (asks_so first x.asked y.asked x.asks (rw (again.uri, ← y.asks.2.has_authority) at y.asks.1)
      (rw again.version at y.asks.2.protocol)))

  second_read : IsReadBy (present y) after y.asked.protocol y.asked.authority g y.answer
  second_read = read_answer y again.read_again y.asked.protocol y.asked.authority
      (asks_so second y.asked y.asked y.asks (rw (← y.asks.2.has_authority) at y.asks.1) y.asks.2.protocol)

  t : IsTagged (present x) before (asks first_read.0 f) first_read.1 tag x.answer.reason
  t = tagged_by _ _ _ _ _ (is_admitted x.answer.reason) x.answer.reason x.answer.status x.answer.sends first_read.2.own
      refl first_read.2.gives (rw alike.state at (sym (tags_carried x) ∙ told))

  scores : map (score site.resource.negotiation f) before.representations.items
      ≡ map (score site.resource.negotiation g) after.representations.items
  scores =
      let mine = x.described.are in
      let theirs = y.described.are in
      let labels = alike.labels in grind (arith, scores_are, same)

  same_length : length before.representations.items ≡ length after.representations.items
  same_length = sym (length-map before.representations.items (score site.resource.negotiation f)) ∙ ap length scores
      ∙ length-map after.representations.items (score site.resource.negotiation g)

  unacceptable_same : is_unacceptable before (asks (codes "GET") f) ≡ is_unacceptable after (asks (codes "GET") g)
  unfolding is_unacceptable
  unacceptable_same =
      let none = ap (list_all (λ k. k == 0)) scores in grind (arith, list_all-map, same_length, none)

  -- what doesn't keep the first from being performed doesn't keep the second from it
  still : (reason : Reason) → applies (present x) before (asks (codes "GET") f) reason ≡ false
      → applies (present y) after (asks (codes "GET") g) reason ≡ false
  still Reason.NotAcceptable e = sym unacceptable_same ∙ e
  still reason e = grind (arith, reason, same (codes "host") refl, same (codes "expect") refl)

  reason_is : y.answer.reason ≡ Admitted
  reason_is =
      only_admitted _ _ (λ other low. read_as_get (present y) after y.asked.protocol y.asked.authority g second_read.0
      second_read.1 other ∙ still other (sym (read_as_get (present x) before y.asked.protocol y.asked.authority f
      first_read.0 first_read.1 other) ∙ first_read.2.first.none_before other (rw t.admits low))) second_read.2.first

  selected : IsSelected after g t.place
  selected = grind (arith, t, picks_across, scores, same_length, place_alike)

  -- the answer by the preconditions on it
  goes_on : GoesOn (present y) after (asks second_read.0 g) t.place (at_place after.representations.items t.place)
      y.answer.status y.answer.sends second_read.2.own
  goes_on =
      let gives = simp reason_is at second_read.2.gives in
      simp (one_place after g gives.place t.place gives.selected selected) at gives.goes

  pair : (f : File) × (g : File) × (file_at x.found.files.items t.place ≡ Some f)
      × (file_at y.found.files.items t.place ≡ Some g) × (label_of f ≡ label_of g)
  pair = two_files _ _ _ _ _ (labels_at _ _ t.place alike.labels) (rw (at_file x t.place) at t.tagged)

  then_seen : seen_at before t.place ≡ current_of (present x) pair.0
  then_seen = rw (at_file x t.place, pair.2)

  now_seen : seen_at after t.place ≡ current_of (present y) pair.1
  now_seen = rw (at_file y t.place, pair.3)

  own_tag : lines_sent (λ (value : FieldValue). value.bytes) (tag_of pair.1.source) ≡ tag ∷ []
  own_tag = ap (λ (l : Label). lines_sent (λ (value : FieldValue). value.bytes) l.tag) (sym pair.4)
      ∙ (rw then_seen at t.tagged)

  abbrev content : Content
  content = content_of (at_place after.representations.items t.place)

  pub by_none_match : ParsesOneWay → f (codes "if-match") ≡ g (codes "if-match")
      → g (codes "if-unmodified-since") ≡ [] → g (codes "if-none-match") ≡ tag ∷ [] → IsSomeTag tag
      → (s.status ≡ 304) × (lines_in (fields_of s) (codes "etag") ≡ tag ∷ []) × (s.pieces.items ≡ [])
  by_none_match parse matching undated names some =
      let v = validators_of (present y) pair.1 in
      let kept = kept_again (present x) (present y) f g (validators_of (present x) pair.0) v (ap (λ (l : Label). l.tag)
      pair.4) matching undated (rw then_seen at t.kept) in
      let r = not_modified _ second_read.0 g v content site.resource.boundary goes_on.response (not_modified_by _ g v _
      _ second_read.1 kept names (weakly_named parse tag some.0 some.1 v own_tag)) (rw now_seen at goes_on.answered) in
      let sends : y.answer.sends ≡ Planned t.place NotModified = goes_on.sends ∙ rw (r.1, r.3) in (
        y.carries.status ∙ rw (reason_is, goes_on.has_status, r.1) r.2,
        tags_carried y ∙ ap (given_under true after) sends ∙ ap tag_lines now_seen ∙ own_tag,
        y.carries.pieces ∙ rw sends (no_pieces (string_bytes site.divider) (file_at y.found.files.items t.place)),
      )

  pub by_match : ParsesOneWay → g (codes "if-match") ≡ tag ∷ [] → (parts : TagParts) → IsTag tag parts
      → parts.is_weak ≡ false → s.status ≢ 412
  by_match parse names parts is strong refused =
      let v = validators_of (present y) pair.1 in
      not_failed _ second_read.0 g v content site.resource.boundary goes_on.response (never_failed (present y) g v _ _
      second_read.1 names (strongly_named parse tag parts is v own_tag strong)) (rw now_seen at goes_on.answered)
      y.found.status (rw (reason_is, goes_on.has_status) at (sym y.carries.status ∙ refused))

-- ==== The answer to a request is that to another one, or of another store.

pub get_is : (asked : Asked) → asked.method ≡ codes "GET" → asked.fields (codes "range") ≡ [] → get_of asked ≡ asked
get_is asked is none = grind arith

-- what is found, decided and sent answers another request, or a request at another store, where it is that there too
pub answered_as : {now : Option ℕ} {left : ℕ} {site : Site} {has also : List ℕ → Entry → Type 0}
    {request other : Request (List ℕ)} {response : Response} {source : Option Source}
    (x : IsAnswerAt now left site has request response source)
    → LeadsTo site.resource.negotiation.coding also (head_of other).uri x.found → (asked : Asked) → Asks other asked
    → Decides (clock now x.found.files.items) (string_bytes site.divider) x.found.files.items x.resource asked x.answer
    → IsAnswerAt now left site also other response source
answered_as x leads asked asks decides = record {
  found = x.found;
  leads = leads;
  resource = x.resource;
  described = x.described;
  asked = asked;
  asks = asks;
  answer = x.answer;
  decides = decides;
  carries = x.carries;
  opens = x.opens;
}

module _ (look other : List ℕ → Entry) where
  contents : (negotiates : Bool) (named : List ℕ) (file : File) (files : List File)
      → ((coding : Coding) → negotiates ≡ true
      → look (named ++ coding_suffix coding) ≡ other (named ++ coding_suffix coding))
      → AreContents negotiates (has_at look) named file files → AreContents negotiates (has_at other) named file files
  contents negotiates named file files same h = grind (arith, negotiates, same Brotli, same Gzip)

  pub leads : (negotiates : Bool) (uri : Uri) (found : _) → HaveAlike negotiates (uri_path uri) look other
      → LeadsTo negotiates (has_at look) uri found → LeadsTo negotiates (has_at other) uri found
  leads negotiates uri found alike x = grind (arith, contents, alike.beside)

-- ==== The response to a preflight, as a browser reads it.

abbrev pub nothing : LineMap
nothing name = []

module _ (name : List ℕ) where
  -- what a map has after fields are set is what they are sent as, or what it had before
  set_all-sent : (m : LineMap) (fields : List Field)
      → set_all m fields name ≡ cond (is_named name fields) (lines_in (headers_set fields) name) (m name)
  set_all-sent m [] = refl
  set_all-sent m (field ∷ fields) =
      let decides = bytes_eq-Decides field.0 name in
      let other = lines_unless-other name (is_named field.0 fields) field.0 field.1 in
      let same = lines_of_same name field.0 field.1 in
      set_all-sent (set m field) fields
      ∙ grind (arith, other, same, sent-none name true fields, append-nil, lines_in-append name)

  sent_as_set : (fields : List Field) → lines_in (headers_set fields) name ≡ set_all nothing fields name
  sent_as_set fields = grind (arith, set_all-sent nothing fields, sent-none name true fields)

-- both have the same field lines under the names whose values stay as they are
abbrev IsReadAlike : LineMap → LineMap → Type 0
IsReadAlike m n = (name : List ℕ) → is_kept name ≡ true → m name ≡ n name

pub check_alike : (m n : LineMap) (sent : Sent) → IsReadAlike m n → CorsCheck m sent ↔ CorsCheck n sent
check_alike m n sent same = grind arith

pub passes_alike : (status : ℕ) (m n : LineMap) (sent : Sent) → IsReadAlike m n
    → PreflightPasses status m sent ↔ PreflightPasses status n sent
passes_alike status m n sent same = let check = check_alike m n sent same in grind arith

module _ (present : ℕ) (resource : Resource) (asked : Asked) (policy : Policy) (has : resource.cors ≡ Some policy)
    (sent : Sent) (asks : IsPreflightFor sent asked.method asked.fields)
    (host : has_host asked.protocol (asked.fields (codes "host")) ≡ true)
    (own : is_misdirected resource asked ≡ false) where
  preflight_first : (reason : Reason) → IsFirst (applies present resource asked) reason → reason ≡ Reason.Preflight
  preflight_first reason h =
      let holds = h.is in grind (arith, reason, h.none_before Reason.Preflight, asks.options, asks.origin, asks.asked)

  stops : (answer : Answer) (a : IsAnswer present resource asked answer)
      → Stops resource asked Reason.Preflight answer.status answer.sends a.own
  stops answer a = rw (preflight_first answer.reason a.first) at a.gives

  -- no answer is that to a HEAD
  pub decided : (divider : List ℕ) (files : List File) (answer : Answer)
      → Decides present divider files resource asked answer
      → IsAnswer present resource asked answer × (answer.reason ≡ Reason.Preflight) × (answer.sends ≡ sends.Nothing)
  decided divider files answer d = grind (arith, preflight_first, stops)

pub read_as_set : {now : Option ℕ} {left : ℕ} {site : Site} {has : List ℕ → Entry → Type 0}
    {request : Request (List ℕ)} {response : Response} {source : Option Source} {policy : Policy}
    (x : IsAnswerAt now left site has request response source) → site.resource.cors ≡ Some policy
    → IsReadAlike (lines_in (fields_of response)) (set_all nothing (given x))
read_as_set x cors name kept = lines_carried x name kept
    ∙ ap (λ (cors : Option Policy). lines_in (headers_sent (is_some cors) (given x)) name) cors
    ∙ sent_as_set name (given x)

-- ==== Two parts that join are the content.

part_pieces : (divider : List ℕ) (file : Option File) (part : Part) (source : Source) → Some source ≡ source_of file
    → pieces_of divider file (Single part) ≡ Range (part_extent part) ∷ []
part_pieces divider file part source e = grind (arith, file)

pub sent_part : {now : Option ℕ} {left : ℕ} {site : Site} {has : List ℕ → Entry → Type 0} {request : Request (List ℕ)}
    {response : Response} {kept : Kept} (x : IsAnswerAt now left site has request response (Some (InMemory kept)))
    (place : Option ℕ) (part : Part) → x.answer.sends ≡ Planned place (Single part) → (sent : List ℕ)
    → AreSent (gives_of (Some (InMemory kept))) response.pieces.items sent
    → sent ≡ take (part.last + 1 - part.first) (drop part.first kept.content)
sent_part {site = site} {response = response} {kept = kept} x place part sends sent h =
    let opens = x.opens in
    let carried = x.carries.pieces in
    let bytes = sent_bytes kept response.pieces.items sent h in grind (arith, part_pieces, append-nil)

pub halves : (content : List ℕ) (first second : Part) → JoinTo (length content) first second
    → take (first.last + 1 - first.first) (drop first.first content)
    ++ take (second.last + 1 - second.first) (drop second.first content) ≡ content
halves content first second joins = grind (arith, drop, length-drop, take_all, take-append-drop)
