-- What the file server sends in answer to a literal request.
mod Tags
unfoldable pub use Tags.*

-- ==== The request that a literal text is.

root_text : IsUriText (codes "/") None None (codes "/")
root_text = (
  omega arith,
  ((inr refl, record { start = inr refl; short = omega arith; kept = IsPathAndQuery_slash }), refl),
)

root_form : (scheme authority : Option (List ℕ)) (kept : List ℕ) → IsForm (codes "/") scheme authority kept
    → (scheme ≡ None) × (authority ≡ None) × (kept ≡ codes "/")
root_form scheme authority kept h = grind (arith, scheme, authority, cut_first)

abbrev pub message_with : List ℕ → Message.Request
message_with method = record { head = root_head method; body = whole_body [] [] }

abbrev host_header : List Header
host_header = (codes "Host", codes "a.example") ∷ []

-- the text of a request by this method is read as that, and has no body
pub record IsVerb (method : List ℕ) : Type 0 where
  pub reads : ReadsRequest (request_text method) (root_head method) []
  pub strict : HasNoBareLf (print_request (root_head method))
  pub unframed : request_framing (method_kind method) 1 (known_of (root_head method).fields) ≡ Ok NoBody

pub get_verb : IsVerb (codes "GET")
unfolding are_headers print_request is_token_byte known_fields eq_ignore_case trim_ows
get_verb = grind (arith, request_reads_back (codes "GET") (codes "/") 1 host_header [] refl)

pub head_verb : IsVerb (codes "HEAD")
unfolding are_headers print_request is_token_byte known_fields eq_ignore_case trim_ows
head_verb = grind (arith, request_reads_back (codes "HEAD") (codes "/") 1 host_header [] refl)

module _ (method : List ℕ) (verb : IsVerb method) where
  verb_reads : (limits : Limits) → length (print_request (root_head method)) ≤ limits.max_head_len
      → ReadsRequestMessage limits (request_text method) (message_with method) []
  unfolding known_fields eq_ignore_case
  verb_reads limits room = grind arith

  -- no other request is
  one_message : (limits : Limits) (m : Message.Request) (rest : List ℕ)
      → ReadsRequestMessage limits (request_text method) m rest → (m ≡ message_with method) × (rest ≡ [])
  one_message limits m rest h =
      let head =
      request_unique (request_text method) m.head (root_head method) h.after_head [] h.head.reads verb.reads in
      let room = h.head.strict.0 in
      request_message_unique limits (request_text method) m (message_with method) rest [] h (verb_reads _ (grind arith))

  -- the request that a handler is given
  pub asked_by : (config : Config) (m : Message.Request) (r : Request (List ℕ)) (rest : List ℕ)
      → ReadsCall config (request_text method) m r rest → AsksForRoot method r × (rest ≡ [])
  unfolding trim_ows
  asked_by config m r rest h =
      let one = one_message config.limits m rest h.reads in
      let parts : ArePartsOf (root_head method) (head_of r) =
      rw (ap (λ (x : Message.Request). x.head) one.0) at h.parts in
      let body : body_of r ≡ [] = h.body ∙ ap (λ (x : Message.Request). x.body.bytes) one.0 in
      let uri = (head_of r).uri in
      let target = root_form (uri_scheme uri) (uri_authority uri) (uri_data uri) parts.uri.1 in (grind arith, one.1)

pub get_reads : (limits : Limits) → 35 ≤ limits.max_head_len
    → ReadsRequestMessage limits (request_text (codes "GET")) (message_with (codes "GET")) []
unfolding print_request
get_reads = verb_reads (codes "GET") get_verb

-- ==== The response to a GET of the root.

-- what was found is that file
record HasFile (file : File) (found : State) (all : List File) : Type 0 where
  state : found ≡ state.Current
  files : all ≡ file ∷ []

file_found : (store : Memory) (negotiates : Bool) (uri : Uri) (named : List ℕ) (entry : Entry) (found : _)
    → negotiates ≡ false → named ≡ string_bytes store.path → HasOne store named entry
    → FindsEntry negotiates (HasOne store) uri named entry found → (file : File) × HasOne store named (Readable file)
    × HasFile file found.state found.files.items
file_found store negotiates uri named entry found off same has finds = grind (arith, entry)

index_named : IsStorePath (codes "/") (codes "index.html")
unfolding percent_decode
index_named = record { rooted = refl; utf8 = ([], (refl, refl)); is_named = refl; plain = refl }

abbrev host_map : Entries FieldValue
host_map = (codes "host", record { bytes = codes "a.example"; is_sensitive = false } ∷ []) ∷ []

host_valid : (protocol : Protocol) → has_host protocol (codes "a.example" ∷ []) ≡ true
unfolding is_reg_name
host_valid protocol = grind (arith, protocol)

asks_for_all : (negotiates : Bool) (m : Entries FieldValue) → m ≡ host_map → AsksForAll negotiates (lines_at m)
asks_for_all negotiates m is = rw is assumption

module _ {now : Option ℕ} {left : ℕ} {settings : Settings} {site : Site} {request : Request (List ℕ)}
    {response : Response} {source : Option Source} (store : Memory) (of : IsSiteOf settings site)
    (bare : HasNoOptions settings) (index : string_bytes store.path ≡ codes "index.html")
    (asks : AsksForRoot (codes "GET") request) (x : IsAnswerAt now left site (HasOne store) request response source)
  where
    negotiates : site.resource.negotiation.coding ≡ false
    negotiates = of.coding ∙ bare.negotiates

    cors : site.resource.cors ≡ None
    cors = of.cors ∙ bare.cors

    names_index : Names (uri_path (head_of request).uri) (Some (codes "index.html"))
    names_index = rw asks.path index_named

    there : (file : File) × HasOne store (codes "index.html") (Readable file)
        × HasFile file x.found.state x.found.files.items
    there = elim x.leads [
      | inl h ↦
          let same : h.0 ≡ codes "index.html" = h.1.is_named ∙ sym names_index.is_named in
          let file = file_found store site.resource.negotiation.coding (head_of request).uri h.0 h.2.0 x.found
          negotiates (same ∙ sym index) h.2.1 h.2.2 in
          (file.0, subst (λ (p : List ℕ). HasOne store p (Readable file.0)) same file.1, file.2)
      | inr h ↦ absurd (h.0 (codes "index.html") names_index)
    ]

    abbrev file : File
    file = there.0

    looked : IsAnswerAt now left site (λ path entry. entry ≡ Readable file) request response source
    looked =
        let e = there in
        let off = negotiates in
        answered_as x (inl (codes "index.html", names_index, (Readable file, refl, grind arith))) _ x.asks x.decides

    fields_at : (name : List ℕ) (lines : List Line) → lines_at host_map name ≡ lines → x.asked.fields name ≡ lines
    fields_at name lines is = rw (x.asks.2.fields, asks.headers) is

    pub get_root : (file : File) × HasOne store (codes "index.html") (Readable file)
        × IsWhole now left site file response source × SendsContent file response source
    get_root =
        let finds = found_entry site.resource.negotiation.coding (λ path. Readable file) request (codes "index.html")
        (Readable file) looked.found names_index refl looked.leads in
        let alone : looked.found.files.items ≡ file ∷ [] = subst (λ (b : Bool). AreContents b (λ path e. e ≡ Readable
        file) (codes "index.html") file looked.found.files.items) negotiates finds.2 in
        let all = get_has_all _ _ _ _ _ _ _ _ _ of.is_site x.asks (ap (has_host x.asked.protocol)
        (fields_at (codes "host") (codes "a.example" ∷ []) refl) ∙ host_valid x.asked.protocol) (rw (of.hosts
        ∙ ap (λ l. hosts_in l settings.hosts) bare.hosts)) (ap has_known_expectation (fields_at (codes "expect") []
        refl)) asks.method (asks_for_all site.resource.negotiation.coding (head_of request).headers asks.headers) looked
        file [] finds.0 alone in (
          file,
          there.1,
          record {
            status = all.0.status;
            fields = all.1 cors negotiates
                ∙ ap (λ (l : List File). trimmed_lines ((first_fields now left ++ cache_fields site.cache_control)
                ++ whole_fields (clock now l) file)) alone;
            pieces = all.0.pieces;
            opens = all.0.opens;
          },
          λ kept sent memory h. all_sent file.source source response kept sent all.0 memory h,
        )

-- ==== What a connection sends in answer to a literal request.

abbrev stream : List ℕ
stream = request_text (codes "GET")

abbrev message : Message.Request
message = message_with (codes "GET")

one_get : (limits : Limits) (m : Message.Request) (rest : List ℕ) → ReadsRequestMessage limits stream m rest
    → m.head ≡ root_head (codes "GET")
one_get limits m rest h = ap (λ (x : Message.Request). x.head) (one_message (codes "GET") get_verb limits m rest h).0

empty_reads : (limits : Limits) (m : Message.Request) (rest : List ℕ) → ¬ (ReadsRequestMessage limits [] m rest)
empty_reads limits m rest h =
    let more = ReadsRequest-append [] m.head h.after_head stream h.head.reads in
    let same = request_unique stream m.head (root_head (codes "GET")) (h.after_head ++ stream) [] more get_verb.reads in
    grind (arith, length-append h.after_head stream)

-- each whole request that the stream begins with is this one
next_is : (limits : Limits) (rest : List ℕ) (P : Message.Request → Type 0) → 35 ≤ limits.max_head_len
    → (rest ≡ stream) ⊎ (rest ≡ []) → NextIs limits rest P → P message
next_is limits rest P room at next =
    let reads = get_reads limits room in
    grind (arith, next [] message [], next stream message [], append-nil)

few_fields : ¬ (HasTooManyFields message)
few_fields why = grind arith

host_is_valid : ¬ (HasInvalidHost message)
unfolding trim_ows
host_is_valid why = why (All-cons IsHostValid _ [] (λ named. refl) (All-nil IsHostValid))

coding_is_known : ¬ (HasUnknownCoding message)
unfolding known_fields eq_ignore_case trim_ows
coding_is_known why = cc

waits_for_nothing : (limits : Limits) → ¬ (ExpectsContinue limits stream)
unfolding known_fields eq_ignore_case trim_ows
waits_for_nothing limits why =
    let same = request_unique stream why.0 (root_head (codes "GET")) why.2 [] why.3.reads get_verb.reads in
    let asked = why.4 in cc

any_one : {X : Type 0} (P : X → Type 0) (h : X) → Any P (h ∷ []) → P h
any_one P h why = grind arith

no_room : (name : List ℕ) (m : Entries FieldValue) → length m ≤ 1 → value_count m ≤ 1 → ¬ (RefusesAppend m name)
no_room name m few small why = grind arith

no_room_at : (count : ℕ) (name : List ℕ) → ¬ (RefusesAppend (map_of (take count host_header)) name)
no_room_at count name = grind (arith, count, no_room, take_all)

no_part_error : (e : Error) → ¬ (IsPartError e (codes "GET") host_header)
unfolding is_name_byte
no_part_error Invalid.MaxSizeReached why = no_room_at why.0 why.1 why.2
no_part_error e why = grind (arith, any_one, AllPass-from_list_all)

parts_are_valid : (e : Error) → ¬ (HasInvalidPart e message)
unfolding trim_ows
parts_are_valid e why =
    elim why [ inl target ↦ target None None (codes "/") root_text | inr other ↦ no_part_error e other ]

module _ {H : Type 0} {plans : Plans H} {gives : H → Gives} {config : Config} {first now : H} {sent : List ℕ}
    (room : 35 ≤ config.limits.max_head_len) (e : Exchanged plans gives config first now stream sent true) where
  abbrev Progress : List Call → List ℕ → Type 0
  Progress answered rest = ((answered ≡ []) × (rest ≡ stream)) ⊎ ((c : Call) × (answered ≡ c ∷ []) × (rest ≡ []))

  ends : (stays : Bool) (c : Call) (text after : List ℕ) → Exchanges config stays stream c text after → after ≡ []
  ends stays c text after e = (asked_by (codes "GET") get_verb config e.message c.0 after e.request).1

  not_on_empty : (stays : Bool) (c : Call) (text after : List ℕ) → ¬ (Exchanges config stays [] c text after)
  not_on_empty stays c text after e = empty_reads config.limits e.message after e.request.reads

  progress : (answered : List Call) (text rest : List ℕ) → Serves config stream answered text rest
      → Progress answered rest
  progress [] text rest h = inl (refl, sym h.0)
  progress (c ∷ []) text rest h = inr (c, refl, sym h.5.0 ∙ ends true c h.0 h.1 h.4)
  progress (c ∷ d ∷ more) text rest h = absurd (not_on_empty true d h.5.0 h.5.1 (rw (ends true c h.0 h.1 h.4) at h.5.4))

  abbrev past : IsServed config e.history
  past = e.ended.0

  read : Progress past.answered past.rest
  read = progress past.answered past.text past.rest (simp e.is_received at past.serves)

  next : (P : Message.Request → Type 0) → NextIs config.limits past.rest P → P message
  next P n = next_is config.limits past.rest P room (elim read [ inl is ↦ inl is.1 | inr is ↦ inr is.2 ]) n

  abbrev IsCall : Call → List ℕ → List ℕ → Type 0
  IsCall c text after = SendsCall plans gives config first now stream c text after

  head_sent : (c : Call) (text after : List ℕ) (s : IsCall c text after)
      → s.exchange.message.head ≡ root_head (codes "GET")
  head_sent c text after s = one_get config.limits s.exchange.message after s.exchange.request.reads

  pub bodied : (c : Call) (text after : List ℕ) (s : IsCall c text after)
      → (s.bodiless ≡ false) × (s.content ≡ c.1.body.items)
  bodied c text after s = let head = head_sent c text after s in grind arith

  -- `http1` doesn't refuse a response that is sent
  unrefused : (c : Call) (text after : List ℕ) → IsCall c text after → (framing : Framing)
      → refusal_of (answering config.limits (root_head (codes "GET")) framing) c.1 ≡ None
  unrefused c text after s framing =
      let head = head_sent c text after s in
      let body = bodied c text after s in
      let len : content_len s.plan ≡ length s.content + 0 = Advances-length (gives now) (rw body.0 at s.is_content) in
      let size : length c.1.body.items ≡ content_len s.plan = omega (arith, len, ap length body.1) in
      let late : c.1.status ≢ 101 = λ is. s.frames.late (sym s.has_head.status ∙ is) in
      cond-false _ _ _ (ne_eqb _ _ late) ∙ (λ i. response_refusal (answering config.limits (sym head i) framing)
      (s.has_head.status i) (reason_of (s.has_head.status i)) (size_for (size i)) (s.has_head.headers i)) ∙
      s.frames.valid

  -- what was sent is the response of one call
  one_sent : (calls : List Call) (text rest : List ℕ) → 0 < length calls
      → SendsCalls plans gives config first now stream calls text rest
      → (c : Call) × (after : List ℕ) × IsCall c text after
  one_sent [] text rest some x = absurd (omega (arith, some))
  one_sent (c ∷ []) text rest some x = (c, x.2, rw (x.4, x.6.2, append-nil, x.6.0) x.5)
  one_sent (c ∷ d ∷ more) text rest some x =
      let next = x.6 in
      absurd (not_on_empty next.5.stays d next.1 next.2 (rw (ends x.5.stays c x.1 x.2 x.5.exchange) at next.5.exchange))

  l : IsLiteral plans gives config first now e.history.state stream e.history.calls sent
  l = rw (e.is_received, e.is_sent, e.ended.3) at e.literal

  -- the connection refused nothing
  refuses : (why : Refusing) → ¬ (Justifies why config e.history past.answered past.rest)
  refuses refusal.Truncated x = elim read [ inl is ↦ x.3 message [] (rw is.1 (get_reads _ room)) | inr is ↦ x.2 is.2 ]
  refuses (refusal.Unreadable e) x = few_fields (next HasTooManyFields x.1)
  refuses refusal.BodyTooLarge x =
      let large = next (λ m. config.max_body_len < length m.body.bytes) x.1 in omega (arith, large)
  refuses (refusal.InvalidPart e) x = parts_are_valid e (next (HasInvalidPart e) x.1)
  refuses refusal.InvalidHost x = host_is_valid (next HasInvalidHost x.1)
  refuses refusal.UnknownCoding x = coding_is_known (next HasUnknownCoding x.1)
  refuses (refusal.InvalidResponse error) x = elim read [
    | inl is ↦
        let c = x.1 in
        let calls : e.history.calls ≡ c.call ∷ [] = c.calls ∙ ap (λ (l : List Call). l ++ c.call ∷ []) is.0 in
        let head = one_get _ _ _ (rw is.1 at c.request.reads) in
        let call = simp calls at l.sends in
        let sends =
        subst (λ (x : H). SendsCall plans gives config first x stream c.call call.1 call.2) (sym call.6.0) call.5 in
        let none = unrefused _ _ _ sends c.request.reads.framing in
        let clash : None ≡ Some error = sym none ∙ rw head at x.2 in cc clash
    | inr is ↦ empty_reads config.limits x.1.message x.0 (rw is.2 at x.1.request.reads)
  ]

  -- it was called, and sent nothing after its responses
  called : (state : Stage) (rest later : List ℕ) → IsClosing state
      → Stands state config e.history past.answered past.text past.interim past.rest
      → IsLater config.limits state rest later → (0 < length e.history.calls) × (later ≡ [])
  called state rest later closing x none = grind (arith, state, length-append, read, refuses)

  pub one_call : (c : Call) × (after : List ℕ) × IsCall c sent after
  one_call =
      let is = called e.history.state l.rest l.later e.ended.1 past.stands l.is_later in
      rw (l.out, is.1, append-nil) (one_sent e.history.calls l.text l.rest is.0 l.sends)

-- ==== What the file server sends in answer to a literal request.

get_stays_open : StaysOpen (root_head (codes "GET"))
unfolding known_fields eq_ignore_case trim_ows
get_stays_open = record { minor = refl; keeps = refl; method = refl }

kept_in : (content : List ℕ) (source : Source) → IsKept content source
    → (kept : Kept) × (source ≡ InMemory kept) × (kept.content ≡ content)
kept_in content (InMemory kept) is = (kept, refl, is)
kept_in content (Opened opened) is = absurd is

-- the field lines of a 200 with all of a file in memory, in no coding and of no date, whatever the present
memory_fields : (now : Option ℕ) (left present : ℕ) (cache_control : Option FieldValue) (file : File) (kept : Kept)
    (media_type : FieldValue) → 1 < left → cache_control ≡ None → file.source ≡ InMemory kept
    → file.media_type ≡ media_type → file.modified ≡ None → file.coding ≡ Identity → length kept.content < 2 ^ 64
    → trimmed_lines ((first_fields now left ++ cache_fields cache_control) ++ whole_fields present file)
    ≡ ok_fields now (strong_tag (content_digest kept.content)) (length kept.content) (trim media_type.bytes)
memory_fields now left present cache_control file kept media_type more none memory type undated plain short =
    let going : nat_lt 1 left ≡ true = lt-ltb 1 left more in
    let len = decimal_trimmed (length kept.content) short in grind (arith, now, fixdate_trimmed)

module _ {config : Config} {settings : Settings} {first now : FileService Memory} {sent : List ℕ}
    (room : 35 ≤ config.limits.max_head_len) (of : IsSiteOf settings first.site) (bare : HasNoOptions settings)
    (index : string_bytes first.store.path ≡ codes "index.html") (undated : first.store.modified ≡ None)
    (more : 1 < first.left) (e : Exchanged plans gives config first now stream sent true) where
  abbrev content : List ℕ
  content = first.store.content.content

  abbrev type : List ℕ
  type = trim first.store.media_type.bytes

  abbrev content_tag : List ℕ
  content_tag = strong_tag (content_digest content)

  abbrev c : Call
  c = (one_call room e).0

  abbrev after : List ℕ
  after = (one_call room e).1

  abbrev s : SendsCall plans gives config first now stream c sent after
  s = (one_call room e).2

  abbrev time : Option ℕ
  time = date_of s.planned.0.0

  root : (file : File) × HasOne first.store (codes "index.html") (Readable file)
      × IsWhole time first.left first.site file s.plan now.source × SendsContent file s.plan now.source
  root = get_root first.store of bare index
      (asked_by (codes "GET") get_verb config s.exchange.message c.0 after s.exchange.request).0 s.planned.0.1

  kept : (kept : Kept) × (root.0.source ≡ InMemory kept) × (kept.content ≡ content)
  kept = kept_in content root.0.source root.1.1

  len_is : content_len s.plan ≡ length content
  len_is = grind (arith, root, kept)

  fields_are : plan_fields s.plan ≡ ok_fields time content_tag (length content) type
  fields_are =
      let short = rw (len_is, ← kept.2) at s.planned.0.1.carries.short in
      root.2.fields ∙ memory_fields time _ (clock time (root.0 ∷ [])) _ _ _ _ more (of.cache_control ∙
      bare.cache_control) kept.1 root.1.2 (root.1.3 ∙ undated) root.1.4 short ∙ ap (λ (bytes : List ℕ). ok_fields time
      (strong_tag (content_digest bytes)) (length bytes) type) kept.2

  pub served : IsServedFile first.store sent
  served =
      let head = head_sent room e c sent after s in
      let body = bodied room e c sent after s in
      let quiet : s.exchange.interim ≡ [] =
      elim s.exchange.is_interim [ inl none ↦ none | inr waits ↦ absurd (waits_for_nothing config.limits waits.1) ] in
      let same : s.content ≡ content = root.3 kept.0 s.content kept.1 (simp body.0 at s.is_content) ∙ kept.2 in
      let answer : IsAnswerOf (root_head (codes "GET")) c.1 sent =
      simp (s.exchange.joined, quiet) (simp head at s.exchange.is_answer) in
      let ok : IsOk time content_tag type s.plan = record { status = root.2.status; fields = rw len_is fields_are } in
      let framing = s.exchange.request.reads.framing in
      let frames = subst
      (λ (head : RequestHead). Frames s.bodiless s.plan (answering config.limits head framing) [] [] s.server s.head
      s.tail) head s.frames in
      let framed =
      framed_literally config.limits (root_head (codes "GET")) framing ok get_stays_open (simp body.0 at frames) in
      record {
        now = time;
        message = answer.message;
        reads = answer.reads;
        minor = answer.version;
        status = answer.status ∙ s.has_head.status ∙ root.2.status;
        added = answer.added;
        fields = rw (s.has_head.headers, fields_are) at answer.headers.0;
        own = rw (ap length (sym body.1 ∙ same)) at answer.headers.1;
        body = answer.body ∙ sym body.1 ∙ same;
        literal = s.exchange.joined ∙ (λ i. quiet i ++ s.literal i)
            ∙ (λ i. framed.0 i ++ (same i ++ framed.1 i))
            ∙ (λ i. ok_text time content_tag (len_is i) type ++ append-nil content i);
      }
