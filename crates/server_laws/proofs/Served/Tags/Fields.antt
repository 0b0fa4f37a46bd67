-- The field lines of a response.
mod Wire
unfoldable pub use Wire.*

abbrev pub etag : List ℕ
etag = codes "etag"

abbrev length_name : List ℕ
length_name = codes "content-length"

-- one of the two
abbrev pub name_of : Bool → List ℕ
name_of true = etag
name_of false = length_name

-- nor do values of this name stay as they are
abbrev is_side : List ℕ → Bool
is_side name = not (is_framing_field (name, [])) && not (is_kept name)

abbrev are_side : List Header → Bool
are_side hs = list_all (λ (h : Header). is_side h.0) hs

-- The field is Content-Length; or it says nothing of where the message ends, and if its values stay as they are, they
-- have no white space at their ends.
abbrev is_sound : Field → Bool
is_sound field = bytes_eq field.0 length_name
    || (not (is_framing_field (field.0, [])) && (not (is_kept field.0) || list_all is_bare field.1))

abbrev is_sound_line : Header → Bool
is_sound_line h = is_sound (h.0, h.1 ∷ [])

side_sound : (h : Header) → is_side h.0 ≡ true → is_sound_line h ≡ true
side_sound h side = grind (arith, and_parts, and_from, or-true)

length_marked : is_side length_name ≡ false
unfolding eq_ignore_case
length_marked = refl

not_side : (name other : List ℕ) → is_side other ≡ true → is_side name ≡ false → bytes_eq other name ≡ false
not_side name other side marked = by (bytes_eq other name) refl
  where
    by : (b : Bool) → bytes_eq other name ≡ b → b ≡ false
    by true e = absurd (cc (side, marked, ap is_side ((bytes_eq-Decides other name).0 e)))
    by false e = refl

record AreSide (hs : List Header) : Type 0 where
  sound : list_all is_sound_line hs ≡ true
  unnamed : (name : List ℕ) → is_side name ≡ false → lines_in hs name ≡ []

side_lines : (hs : List Header) → are_side hs ≡ true → AreSide hs
side_lines [] e = record { sound = refl; unnamed = λ name marked. refl }
side_lines (h ∷ hs) e =
    let both = and_parts (is_side h.0) (are_side hs) e in
    let rest = side_lines hs both.1 in record {
      sound = and_from (is_sound_line h) _ (side_sound h both.0) rest.sound;
      unnamed = λ name marked. simp (not_side name h.0 both.0 marked, rest.unnamed name marked);
    }

sent-cons : (b : Bool) (field : Field) (fields : List Field)
    → headers_sent b (field ∷ fields) ≡ lines_unless (b && is_named field.0 fields) field ++ headers_sent b fields
sent-cons b field fields = grind arith

one_sound : (same other free bare more : Bool) → (same || (other && (free || (bare && more)))) ≡ true
    → ((same || (other && (free || (bare && true)))) ≡ true) × ((same || (other && (free || more))) ≡ true)
one_sound same other free bare more t = grind (arith, same, other, free, bare)

sound_unless : (b : Bool) (name : List ℕ) (lines : List Line) → is_sound (name, lines) ≡ true
    → list_all is_sound_line (lines_unless b (name, lines)) ≡ true
sound_unless b name [] t = grind (arith, b)
sound_unless b name (line ∷ lines) t = grind (arith, b, sound_unless b name lines, one_sound)

sent_sound : (b : Bool) (fields : List Field) → list_all is_sound fields ≡ true
    → list_all is_sound_line (headers_sent b fields) ≡ true
sent_sound b [] t = grind (arith, b)
sent_sound b (field ∷ fields) t =
    let both = and_parts (is_sound field) (list_all is_sound fields) t in
    rw (sent-cons b field fields, list_all-append)
    (and_from _ _ (sound_unless _ field.0 field.1 both.0) (sent_sound b fields both.1))

header_by : (h : Header) → is_line h ≡ true → is_bare h.1 ≡ true → is_header h ≡ true
header_by h line bare = grind arith

module _ (n : ℕ) (short : n < 2 ^ 64) where
  length_line : (h : Header) → bytes_eq h.0 length_name ≡ true → h.1 ≡ decimal n
      → StatesLength n true (trimmed_line h ∷ [])
  length_line h same is = grind (arith, bytes_eq-Decides, decimal_trimmed, decimal_is_numeral, states_length n short)

  other_line : (h : Header) (kept : Bool)
      → (not (is_framing_field (h.0, [])) && (not kept || (is_bare h.1 && true))) ≡ true
      → is_line (cond kept h (h.0, trim h.1)) ≡ true → StatesLength n false (cond kept h (h.0, trim h.1) ∷ [])
  other_line h kept sound line = grind (arith, kept, states_other n, header_by, trim_bare)

  -- they state this length, or none
  states_lines : (hs : List Header) (stated : Bool) → list_all is_sound_line hs ≡ true
      → lines_in hs length_name ≡ cond stated (decimal n ∷ []) [] → list_all is_line (trimmed_lines hs) ≡ true
      → StatesLength n stated (trimmed_lines hs)
  states_lines [] stated sound lines valid = grind (arith, stated, states_none n)
  states_lines (h ∷ hs) stated sound lines valid =
      let s = and_parts (is_sound_line h) (list_all is_sound_line hs) sound in
      let v = and_parts (is_line (trimmed_line h)) (list_all is_line (trimmed_lines hs)) valid in
      by (bytes_eq h.0 length_name) stated (trimmed_line h) refl (length_line h)
      (λ is. other_line h (is_kept h.0) (rw is at s.0) v.0) lines (λ b l. states_lines hs b s.1 l v.1)
    where
      by : (same stated : Bool) (sent : Header) → bytes_eq h.0 length_name ≡ same
          → (bytes_eq h.0 length_name ≡ true → h.1 ≡ decimal n → StatesLength n true (sent ∷ []))
          → (bytes_eq h.0 length_name ≡ false → StatesLength n false (sent ∷ []))
          → cond same (h.1 ∷ []) [] ++ lines_in hs length_name ≡ cond stated (decimal n ∷ []) []
          → ((b : Bool) → lines_in hs length_name ≡ cond b (decimal n ∷ []) [] → StatesLength n b (trimmed_lines hs))
          → StatesLength n stated (sent ∷ trimmed_lines hs)
      by same stated sent is one other lines rest = grind (arith, same, stated, states_both n, rest true, rest false)

module _ (name : List ℕ) where
  pub lines_in-append : (xs ys : List Header) → lines_in (xs ++ ys) name ≡ lines_in xs name ++ lines_in ys name
  lines_in-append xs ys = flat_map-append (line_named name) xs ys

  -- the first part has none of the name
  pub lines_in-other : (xs ys : List Header) → lines_in xs name ≡ [] → lines_in (xs ++ ys) name ≡ lines_in ys name
  lines_in-other xs ys none = rw (lines_in-append xs ys, none)

  pub lines_unless-other : (replaced : Bool) (other : List ℕ) (lines : List Line) → bytes_eq other name ≡ false
      → lines_in (lines_unless replaced (other, lines)) name ≡ []
  lines_unless-other true other lines e = refl
  lines_unless-other false other [] e = refl
  lines_unless-other false other (line ∷ lines) e = simp (e, lines_unless-other false other lines e)

  pub lines_of_same : (same : List ℕ) (lines : List Line) → bytes_eq same name ≡ true
      → lines_in (lines_under (same, lines)) name ≡ lines
  lines_of_same same [] e = refl
  lines_of_same same (line ∷ lines) e = simp (e, lines_of_same same lines e)

  -- the field lines of each field of the name
  abbrev pub named : List Field → List (List Line)
  named fields = flat_map (λ (field : Field). cond (bytes_eq field.0 name) (field.1 ∷ []) []) fields

  none_named : (fields : List Field) → named fields ≡ [] → is_named name fields ≡ false
  none_named [] e = refl
  none_named (field ∷ fields) e = grind (arith, none_named fields)

  pub sent-none : (has_policy : Bool) (fields : List Field) → is_named name fields ≡ false
      → lines_in (headers_sent has_policy fields) name ≡ []
  sent-none has_policy [] e = grind (arith, has_policy)
  sent-none has_policy (field ∷ fields) e = rw (sent-cons has_policy field fields, lines_in-append) (grind (
    arith,
    lines_unless-other (has_policy && is_named field.0 fields) field.0 field.1,
    sent-none has_policy fields,
  ))

  sent-one : (has_policy : Bool) (lines : List Line) (fields : List Field) → named fields ≡ lines ∷ []
      → lines_in (headers_sent has_policy fields) name ≡ lines
  sent-one has_policy lines [] e = absurd (cc e)
  sent-one has_policy lines (field ∷ fields) e =
      let other = lines_unless-other (has_policy && is_named field.0 fields) field.0 field.1 in
      let same = lines_of_same field.0 field.1 in
      let named = bytes_eq-Decides field.0 name in
      let one = sent-one has_policy lines fields in
      let none = sent-none has_policy fields in
      rw (sent-cons has_policy field fields, lines_in-append) (grind (arith, none_named fields, append-nil, and-false))

  -- a field line keeps its value if the name is one whose values stay as they are
  one_kept : (h : Header) → is_kept name ≡ true → line_named name (trimmed_line h) ≡ line_named name h
  one_kept h kept = by (is_kept h.0) (bytes_eq h.0 name) refl refl (bytes_eq-Decides h.0 name).0
    where
      by : (c b : Bool) → is_kept h.0 ≡ c → bytes_eq h.0 name ≡ b → (b ≡ true → h.0 ≡ name)
          → line_named name (cond c h (h.0, trim h.1)) ≡ cond b (h.1 ∷ []) []
      by c b e f same = grind (arith, c, b)

  lines_in-trimmed : is_kept name ≡ true → (hs : List Header) → lines_in (trimmed_lines hs) name ≡ lines_in hs name
  lines_in-trimmed kept [] = refl
  lines_in-trimmed kept (h ∷ hs) = λ i. one_kept h kept i ++ lines_in-trimmed kept hs i

record AreQuiet (fields : List Field) : Type 0 where
  unnamed : (b : Bool) → named (name_of b) fields ≡ []
  sound : list_all is_sound fields ≡ true

reason_quiet : (resource : Resource) (request : Asked) (reason : Reason)
    → AreQuiet (reason_fields resource request reason)
unfolding eq_ignore_case
reason_quiet resource request reason = grind (arith, reason, resource, request)

vary_quiet : (lines : List Line) → AreQuiet (vary_fields lines)
unfolding eq_ignore_case
vary_quiet lines = grind (arith, lines)

abbrev is_bare_if_any : Option Line → Bool
is_bare_if_any line = option_map_or is_bare line true

lines_bare : (b : Bool) (line : Option Line) → is_bare_if_any line ≡ true → list_all is_bare (lines_if b line) ≡ true
lines_bare b line bare = grind (arith, b, line)

bare_if : (b : Bool) (line : Line) → (b ≡ true → is_bare line ≡ true) → is_bare_if_any (cond b (Some line) None) ≡ true
bare_if b line bare = grind arith

listed_bare : (line : Line) (listed : List Line) → list_all is_bare listed ≡ true
    → list_any (bytes_eq line) listed ≡ true → is_bare line ≡ true
listed_bare line [] bare found = absurd (cc found)
listed_bare line (other ∷ listed) bare found = grind (arith, listed_bare line listed, bytes_eq-Decides)

grant_bare : (origins : Option (List Line)) (sent : Option Line) → option_map_or (list_all is_bare) origins true ≡ true
    → is_bare_if_any (grant origins sent) ≡ true
grant_bare origins sent bare = grind (arith, listed_bare)

varied : (b c : Bool) (lines : List Line)
    → list_all is_sound (cond b (cond c [] ((codes "vary", lines) ∷ [])) []) ≡ true
unfolding eq_ignore_case
varied b c lines = grind (arith, b, c)

policy_sound : (policy : Policy) (leave : Bool) (sent varying : List Line) → IsBarePolicy policy
    → list_all is_sound (policy_fields policy leave sent varying) ≡ true
unfolding eq_ignore_case
policy_sound policy leave sent varying bare = grind (arith, grant_bare, varied, lines_bare, bare_if)

shared_sound : (cors : Option Policy) (request : Asked) (lines : List Line) (shared : List Field) → IsBareIfAny cors
    → IsShared cors request lines shared → list_all is_sound shared ≡ true
shared_sound cors request lines shared bare shares = grind (arith, policy_sound)

-- those of a plan
abbrev pub sent_under : Bool → Plan → Target → Content → List Line
sent_under true plan target content = lines_sent (λ (tag : FieldValue). tag.bytes) (etag_sent plan (etag_of target))
sent_under false plan target content = lines_sent decimal (length_sent plan content.len)

module _ (present : ℕ) (plan : Plan) (target : Target) (content : Content) (multipart : FieldValue) where
  abbrev all_fields : LineMap → Option Representation → List Field
  all_fields fields found =
      with_metadata fields found plan (fields_sent present plan (is_known_by fields) target content multipart)

  plan_named : (b : Bool) (fields : LineMap) (found : Option Representation)
      → named (name_of b) (all_fields fields found) ≡ sent_under b plan target content ∷ []
  plan_named b fields found = grind (arith, b, found, plan, flat_map-append)

  plan_sound : (fields : LineMap) (found : Option Representation) → is_bare_tag (etag_of target) ≡ true
      → list_all is_sound (all_fields fields found) ≡ true
  unfolding eq_ignore_case
  plan_sound fields found bare = grind (arith, found, plan, target, list_all-append)

-- what the preconditions see of the representation at a place
abbrev pub seen_at : Resource → Option ℕ → Target
seen_at resource place = target_of resource.state (at_place resource.representations.items place)

pub represented_at : (present : ℕ) (items : List Representation) (files : List File)
    → items ≡ map (representation_of present) files → (place : Option ℕ)
    → at_place items place ≡ option_map (representation_of present) (file_at files place)
represented_at present items files represented place = grind (arith, place, represented, slice_get-map)

-- those of an answer
abbrev pub given_under : Bool → Resource → Sends → List Line
given_under b resource (Planned place plan) =
    sent_under b plan (seen_at resource place) (content_of (at_place resource.representations.items place))
given_under b resource sent = []

pub none_stopped : (b : Bool) (resource : Resource) (reason : Reason) → given_under b resource (sent_for reason) ≡ []
none_stopped b resource reason = grind (arith, reason)

shared_unnamed : (b : Bool) (cors : Option Policy) (request : Asked) (lines : List Line) (fields : List Field)
    → IsShared cors request lines fields → named (name_of b) fields ≡ []
shared_unnamed b cors request lines fields shares = grind (arith, b, cors, flat_map-append)

module _ (present : ℕ) (resource : Resource) (asked : Asked) where
  -- the fields have these field lines, or have none of the name
  own_tells : (b admitted : Bool) (reason : Reason) (status : Option ℕ) (sent : Sends) (own : List Field)
      → GivesIf admitted present resource asked reason status sent own
      → (named (name_of b) own ≡ given_under b resource sent ∷ [])
      ⊎ ((named (name_of b) own ≡ []) × (given_under b resource sent ≡ []))
  own_tells b true reason status sent own g = grind (arith, plan_named)
  own_tells b false reason status sent own g =
      rw (g.has_fields, g.sends) (inr ((reason_quiet resource asked reason).unnamed b, none_stopped b resource reason))

  pub lines_given : (answer : Answer) → IsAnswer present resource asked answer → (b has_policy : Bool)
      → lines_in (headers_sent has_policy (encoded_fields answer.fields.items)) (name_of b)
      ≡ given_under b resource answer.sends
  lines_given answer a b has_policy =
      let vary = vary_quiet (vary_lines resource answer.reason) in
      let shared = shared_unnamed b resource.cors asked (vary_lines resource answer.reason) a.shared a.is_shared in
      let own : named (name_of b) (encoded_fields answer.fields.items) ≡ named (name_of b) a.own =
      rw (a.fields, flat_map-append, flat_map-append) (simp (vary.unnamed b, shared, append-nil)) in
      let tells = own_tells b (is_admitted answer.reason) answer.reason answer.status answer.sends a.own a.gives in
      let one =
      sent-one (name_of b) has_policy (given_under b resource answer.sends) (encoded_fields answer.fields.items) in
      let none = sent-none (name_of b) has_policy (encoded_fields answer.fields.items) in
      let unnamed = none_named (name_of b) (encoded_fields answer.fields.items) in
      grind arith

  module _ (files : List File) (represented : resource.representations.items ≡ map (representation_of present) files)
    where
      own_sound : (admitted : Bool) (reason : Reason) (status : Option ℕ) (sent : Sends) (own : List Field)
          → GivesIf admitted present resource asked reason status sent own → is_bare_tag (tag_sent files sent) ≡ true
          → list_all is_sound own ≡ true
      own_sound true reason status sent own g bare =
          let at = represented_at present resource.representations.items files represented g.place in
          grind (arith, g.goes.response, plan_sound, file_at files g.place)
      own_sound false reason status sent own g bare = rw g.has_fields (reason_quiet resource asked reason).sound

      pub answer_sound : (answer : Answer) → IsAnswer present resource asked answer → IsBareIfAny resource.cors
          → is_bare_tag (tag_sent files answer.sends) ≡ true
          → list_all is_sound (encoded_fields answer.fields.items) ≡ true
      answer_sound answer h bare tagged = grind (arith, list_all-append, own_sound, vary_quiet, shared_sound)

-- ==== The status and the length of an answer.

-- `http1` sends a response of this status and length, whose fields have these field lines of Content-Length
record IsAccepted (method : MethodKind) (code n : ℕ) (lines : List Line) : Type 0 where
  stated : Bool
  lengths : lines ≡ cond stated (decimal n ∷ []) []
  final : IsFinal method code n stated
  text : is_field_value (reason_of code) ≡ true

-- a status that a page may explain
abbrev is_explained : ℕ → Bool
is_explained code = nat_le 300 code && (nat_le code 999 && (not (code == 304) && is_field_value (reason_of code)))

page_final : (method : MethodKind) (code n : ℕ) (text : Bool)
    → (nat_le 300 code && (nat_le code 999 && (not (code == 304) && text))) ≡ true
    → IsFinal method code n false × (text ≡ true)
page_final method code n text x = grind (arith, nat_tests, text)

explained : (method : MethodKind) (code n : ℕ) → is_explained code ≡ true → IsAccepted method code n []
explained method code n x = let both = page_final method code n (is_field_value (reason_of code)) x in grind arith

empty : (method : MethodKind) (code : ℕ) → (code ≡ 200) ⊎ (code ≡ 204) → is_connect method ≡ false
    → IsAccepted method code 0 []
empty method code is free = record { stated = false; lengths = refl; final = grind arith; text = grind arith }

-- the status of what can't be read
entry_explained : (negotiates : Bool) (has : List ℕ → Entry → Type 0) (uri : Uri) (named : List ℕ) (found_entry : Entry)
    (found : _) → FindsEntry negotiates has uri named found_entry found → is_explained found.status ≡ true
entry_explained negotiates has uri named found_entry found x = grind (arith, found_entry)

found_explained : (negotiates : Bool) (has : List ℕ → Entry → Type 0) (uri : Uri) (found : _)
    → LeadsTo negotiates has uri found → is_explained found.status ≡ true
found_explained negotiates has uri found x = grind (arith, entry_explained)

moved_explained : (now : State) → has_moved now ≡ true → is_explained (moved_status now) ≡ true
moved_explained now t = grind (arith, now)

-- what isn't a refusal
abbrev is_open : Reason → Bool
is_open Admitted = true
is_open Reason.Options = true
is_open Reason.Preflight = true
is_open reason = false

connect_named : (method : List ℕ) → is_connect (method_kind method) ≡ true → method ≡ codes "CONNECT"
connect_named method e = grind (arith, bytes_eq-Decides)

no_connect : (rules : List MethodRule) (own : MethodRule) → rules ≡ own ∷ [] → own.method ≡ codes "GET"
    → has_method rules (codes "CONNECT") ≡ false
unfolding rule_for
no_connect rules own alone get = grind arith

plan_accepted : (divider : List ℕ) (present : ℕ) (file : Option File) (found : Option Representation) (plan : Plan)
    (method : MethodKind) → found ≡ option_map (representation_of present) file → is_connect method ≡ false
    → Fits (divisible_len (content_of found)) plan
    → IsAccepted method (status_of plan) (total_len (pieces_of divider file plan))
    (lines_sent decimal (length_sent plan (content_of found).len))
plan_accepted divider present file found plan method is free fits = record {
  stated = is_some (length_sent plan (content_of found).len);
  lengths = grind (arith, file, plan);
  final = grind (arith, file, plan);
  text = grind (arith, plan);
}

-- CONNECT is refused
free_of : (present : ℕ) (resource : Resource) (own : MethodRule) → resource.rules.items ≡ own ∷ []
    → own.method ≡ codes "GET" → (asked : Asked) (reason : Reason) → IsFirst (applies present resource asked) reason
    → is_open reason ≡ true → is_connect (method_kind asked.method) ≡ false
free_of present resource own alone get asked reason first is =
    let before = first.none_before Reason.MethodNotAllowed in
    let holds = first.is in
    let named = connect_named asked.method in
    let no = no_connect resource.rules.items own alone get in grind (arith, reason, bytes_eq-Decides)

-- ==== The response that carries an answer.

page_side : (code : ℕ) (sent : Sends) → are_side (explained_fields code sent) ≡ true
unfolding eq_ignore_case
page_side code sent = grind (arith, sent)

front_side : (now : Option ℕ) (left : ℕ) (sent : Sends) (cache_control : Option FieldValue)
    → are_side (first_fields now left ++ cache_sent sent cache_control) ≡ true
unfolding eq_ignore_case
front_side now left sent cache_control = grind (arith, now, sent, cache_control, list_all-append)

module _ {now : Option ℕ} {left : ℕ} {site : Site} {has : List ℕ → Entry → Type 0} {request : Request (List ℕ)}
    {response : Response} {source : Option Source} (x : IsAnswerAt now left site has request response source) where
  abbrev pub present : ℕ
  present = clock now x.found.files.items

  abbrev pub resource : Resource
  resource = record site.resource { state = x.found.state; representations = x.described.representations }

  abbrev pub given : List Field
  given = encoded_fields x.answer.fields.items

  abbrev own : List Header
  own = headers_sent (is_some site.resource.cors) given

  abbrev front : List Header
  front = first_fields now left ++ cache_sent x.answer.sends site.cache_control

  abbrev pub code : ℕ
  code = status_for x.found.status x.answer.reason x.answer.status

  abbrev page : List Header
  page = explained_fields code x.answer.sends

  before : AreSide front
  before = side_lines front (front_side now left x.answer.sends site.cache_control)

  after : AreSide page
  after = side_lines page (page_side code x.answer.sends)

  own_alone : (name : List ℕ) → is_side name ≡ false → lines_in ((front ++ own) ++ page) name ≡ lines_in own name
  own_alone name e = rw (lines_in-append name (front ++ own) page, after.unnamed name e, append-nil)
      (lines_in-other name front own (before.unnamed name e))

  -- under a name whose values stay as they are, the response has the field lines of the answer
  pub lines_carried : (name : List ℕ) → is_kept name ≡ true → lines_in (fields_of response) name ≡ lines_in own name
  lines_carried name kept = grind (arith, lines_in-trimmed, own_alone, and-false)

  -- what the answer answers
  pub answered : (asked : Asked) × (asked.fields ≡ x.asked.fields) × (asked.denied ≡ None)
      × (IsGetOrHead x.asked.method → IsGetOrHead asked.method) × IsAnswer present resource asked x.answer
  answered = elim (rw x.described.is at x.decides) [
    | inl h ↦ (x.asked, refl, x.asks.2.admitted, λ read. read, h.1)
    | inr h ↦ (as_head x.asked, refl, x.asks.2.admitted, λ read. inr refl, h.3)
  ]

  own_given : (b : Bool) → lines_in own (name_of b) ≡ given_under b resource x.answer.sends
  own_given b = lines_given present resource answered.0 x.answer answered.4 b (is_some site.resource.cors)

  pub tags_carried : lines_in (fields_of response) etag ≡ given_under true resource x.answer.sends
  tags_carried = lines_carried etag refl ∙ own_given true

  pub at_file : (place : Option ℕ) → at_place resource.representations.items place
      ≡ option_map (representation_of present) (file_at x.found.files.items place)
  at_file = represented_at present resource.representations.items x.found.files.items x.described.are

  module _ (is_site : IsSite (string_bytes site.divider) site.resource) (head : RequestHead)
      (same : head.method ≡ (head_of request).method) where
    abbrev method : MethodKind
    method = method_kind head.method

    abbrev len_of_pieces : ℕ → Sends → ℕ
    len_of_pieces code sent =
        total_len (pieces_for (string_bytes site.divider) site.pages.items x.found.files.items code sent)

    abbrev Accepts : ℕ → Sends → Type 0
    Accepts code sent = IsAccepted method code (len_of_pieces code sent) (given_under false resource sent)

    going : (asked : Asked) (place : Option ℕ) (response : Option Planning)
        → IsAnswered present asked.method asked.fields (seen_at resource place)
        (content_of (at_place resource.representations.items place)) resource.boundary response
        → is_connect method ≡ false
        → Accepts (status_for x.found.status Admitted (status_sent response)) (is_sent place response)
    going asked place None h free = empty method 200 (inl refl) free
    going asked place (Some response) h free = grind (arith, Fits-from_plan, plan_accepted, at_file)

    by_reason : (asked : Asked) → asked.denied ≡ None → (reason : Reason) (status : Option ℕ) (sent : Sends)
        (own : List Field) → applies present resource asked reason ≡ true
        → (is_open reason ≡ true → is_connect method ≡ false)
        → AnswerGives present resource asked reason status sent own
        → Accepts (status_for x.found.status reason status) sent
    by_reason asked none Admitted status sent own t free g =
        rw (g.goes.has_status, g.goes.sends) (going asked g.place g.goes.response g.goes.answered (free refl))
    by_reason asked none Reason.Options status sent own t free g =
        rw (g.has_status, g.sends) (empty method 204 (inr refl) (free refl))
    by_reason asked none Reason.Preflight status sent own t free g =
        rw (g.has_status, g.sends) (empty method 204 (inr refl) (free refl))
    by_reason asked none Reason.Denied status sent own t free g =
        let no : is_some asked.denied ≡ false = ap is_some none in absurd (cc (no, t))
    by_reason asked none Reason.NotFound status sent own t free g = rw g.sends (explained method x.found.status _
        (found_explained site.resource.negotiation.coding has (head_of request).uri x.found x.leads))
    by_reason asked none Reason.Moved status sent own t free g =
        rw (g.has_status, g.sends) (explained method _ _ (moved_explained resource.state t))
    by_reason asked none reason status sent own t free g = rw (g.has_status, g.sends) (explained method _ _ refl)

    frees : (reason : Reason) → IsFirst (applies present resource x.asked) reason → is_open reason ≡ true
        → is_connect method ≡ false
    frees reason first goes = ap (λ (m : List ℕ). is_connect (method_kind m)) (same ∙ sym x.asks.2.method)
        ∙ free_of present resource is_site.rule is_site.rules is_site.is_read.method x.asked reason first goes

    -- what sends several parts is admitted
    several_admitted : (reason : Reason) (status : Option ℕ) (sent : Sends) (own : List Field)
        → AnswerGives present resource x.asked reason status sent own → sends_several sent ≡ true → reason ≡ Admitted
    several_admitted reason status sent own g several = grind (arith, reason)

    free : is_open x.answer.reason ≡ true → is_connect method ≡ false
    free goes = elim (rw x.described.is at x.decides) [
      | inl h ↦ frees _ h.1.first goes
      | inr h ↦
          let several : sends_several h.0.sends ≡ true = grind (arith, h.1) in
          frees _ h.2.first (ap is_open (several_admitted _ _ _ _ h.2.gives several))
    ]

    accepted : Accepts code x.answer.sends
    accepted = let a = answered.4 in by_reason _ answered.2 _ _ _ _ a.first.is free a.gives

    len_is : content_len response ≡ len_of_pieces code x.answer.sends
    len_is = ap total_len x.carries.pieces

    sound : IsBareIfAny site.resource.cors → list_all is_sound_line ((front ++ own) ++ page) ≡ true
    sound bare =
        let fields = answer_sound present resource answered.0 x.found.files.items x.described.are x.answer answered.4
        bare x.carries.tagged in
        let sent = sent_sound (is_some site.resource.cors) given fields in
        grind (arith, before.sound, after.sound, list_all-append)

    states : IsBareIfAny site.resource.cors → StatesLength (content_len response) accepted.stated (plan_fields response)
    states bare = rw (x.carries.headers, len_is)
        (states_lines (len_of_pieces code x.answer.sends) (rw len_is at x.carries.short) ((front ++ own) ++ page)
        accepted.stated (sound bare) (own_alone length_name length_marked ∙ own_given false ∙ accepted.lengths)
        (rw x.carries.headers at x.carries.valid))

    pub answer_sent : (limits : Limits) (framing : Framing) → IsBareIfAny site.resource.cors → head.minor ≤ 1
        → response_refusal (answering limits head framing) response.status (reason_of response.status)
        (plan_size response) (plan_fields response) ≡ None
    answer_sent limits framing bare minor = plan_sent limits head framing response accepted.stated x.carries.short minor
        (rw x.carries.status accepted.text) (states bare) (simp (x.carries.status, len_is) accepted.final)
