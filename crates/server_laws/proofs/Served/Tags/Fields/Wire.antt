-- What `http1` and the connection make of a response.
mod Words
unfoldable pub use Words.*

-- ==== A response whose length is known is sent, unless its fields state another one.

chars_are : (ds : List ℕ) → AllBelowBase 10 ds → map digit_char ds ≡ map (λ d. 48 + d) ds
chars_are [] below = refl
chars_are (d ∷ ds) below = grind (arith, nat_tests, chars_are ds)

-- the two ways to write a number are one
pub decimal_is_numeral : (n : ℕ) → n < 2 ^ 64 → decimal n ≡ numeral 10 n
unfolding numeral
decimal_is_numeral n short =
    grind (arith, nat_tests, decimal_digit, decimal-digits_of, chars_are, all_below_base_digits_of)

pub states_none : (n : ℕ) → StatesLength n false []
states_none n = record { valid = refl; codings = refl; lengths = refl }

-- a field line that says nothing of it
pub states_other : (n : ℕ) (h : Header) → is_header h ≡ true → is_framing_field h ≡ false
    → StatesLength n false (h ∷ [])
states_other n h valid other = grind arith

pub states_length : (n : ℕ) → n < 2 ^ 64 → StatesLength n true (length_header n ∷ [])
unfolding eq_ignore_case is_token_byte
states_length n short = grind (arith, decimal_is_numeral, and_from, decimal_is_trimmed)

pub states_both : (n : ℕ) (a b c : Bool) (xs ys : List Header) → StatesLength n a xs → StatesLength n b ys
    → cond a (decimal n ∷ []) [] ++ cond b (decimal n ∷ []) [] ≡ cond c (decimal n ∷ []) []
    → StatesLength n c (xs ++ ys)
states_both n a b c xs ys x y lengths = grind (arith, list_all-append, flat_map-append)

-- what field lines without Transfer-Encoding say, by the lengths that they state
record Counts (lengths : List (List ℕ)) (hs : List Header) : Type 0 where
  codings : elements_named (codes "transfer-encoding") hs ≡ []
  count : count_by is_framing_field hs ≡ length lengths
  plain : list_all frames_plainly hs ≡ list_all is_plain_number lengths

counts : (hs : List Header) → values_named (codes "transfer-encoding") hs ≡ []
    → Counts (values_named (codes "content-length") hs) hs
counts [] none = record { codings = refl; count = refl; plain = refl }
counts (h ∷ hs) none =
    let one = sum_by-cons (λ (x : Header). cond (is_framing_field x) 1 0) h hs in grind (arith, counts hs)

states_connection : (n : ℕ) (r : Serving) (k : KnownFields) (keep : Bool)
    → StatesLength n false (connection_headers r k keep)
unfolding eq_ignore_case is_token_byte
states_connection n r k keep = grind (arith, keep, states_other, states_none n)

-- the summary of such fields
record Knows (n : ℕ) (stated : Bool) (k : KnownFields) : Type 0 where
  coding : k.transfer_encoding ≡ Coded.Absent
  len : k.content_length ≡ cond stated (Length.Value n) Length.Absent
  states : states_framing k ≡ stated
  usual : is_usual k ≡ true

knows : (n : ℕ) (stated : Bool) (hs : List Header) → n < 2 ^ 64 → StatesLength n stated hs
    → Knows n stated (known_fields hs)
unfolding known_fields
knows n stated hs short x =
    let number = decimal_is_number n short in
    let plain = decimal_is_plain n short in
    grind (arith, stated, counts hs x.codings, decimal_is_numeral n short, number, plain, numeral_reads_back 10 n)

abbrev framing_of : ℕ → ℕ → Bool → Framing
framing_of status n stated = cond (is_bodiless_status status) NoBody (cond stated (Sized n) UntilClose)

module _ (r : Serving) (status n : ℕ) (hs : List Header) (short : n < 2 ^ 64) where
  -- the plan of fields to which these were added, which state the length or not
  module _ (first : List Header) (stated : Bool) (x : StatesLength n stated (hs ++ first)) where
    abbrev k : KnownFields
    k = known_fields (hs ++ first)

    abbrev second : List Header
    second = connection_headers r k (stays_open r k (framing_of status n stated))

    all_stated : StatesLength n stated (hs ++ (first ++ second))
    all_stated =
        rw (← (append_assoc hs first second)) (states_both n _ _ _ _ _ x (states_connection n r k (stays_open r k
        (framing_of status n stated))) (append-nil _))

    abbrev last : WirePlan
    last = record {
      extra = first ++ second;
      framing = cond (has_no_body r.method status) NoBody (cond stated (Sized n) UntilClose);
      keep_alive = stays_open r k (framing_of status n stated);
    }

    plan_with : status ≢ 205 → (eqb status 204 && stated) ≡ false
        → fits (framing_of status n stated) (size_for n) ≡ true
        → cond (eqb status 204 && states_framing k) (Err Refusal.BodySize)
        (cond (is_205_with_content r status (size_for n) k) (Err Refusal.BodySize)
        (cond (is_coded_304 r status k) (Err (Refusal.Framing UnexpectedTransferEncoding))
        (plan_stated r status (size_for n) hs first (response_framing Method.Other status r.minor k)))) ≡ Ok last
    plan_with other late fit =
        let told = knows n stated (hs ++ first) short x in
        let all = knows n stated (hs ++ (first ++ second)) short all_stated in
        grind (arith, nat_tests)

  module _ (stated : Bool) (x : StatesLength n stated hs) (s : IsFinal r.method status n stated) where
    -- the connection adds the length
    abbrev adds : Bool
    adds = is_sized r (size_for n)
        && (not (eqb status 204) && (not (eqb status 304) && not (states_framing (known_fields hs))))

    bare_stated : StatesLength n stated (hs ++ [])
    bare_stated = rw append-nil x

    late : (eqb status 204 && stated) ≡ false
    late = let none = s.bodiless in grind (arith, nat_tests)

    kept : fits (framing_of status n stated) (size_for n) ≡ true
    kept = let none = s.bodiless in let low = s.least in grind (arith, nat_tests)

    silent : adds ≡ true → (stated ≡ false) × (fits (framing_of status n true) (size_for n) ≡ true)
        × ((eqb status 204 && true) ≡ false) × (size_headers r.minor (size_for n) ≡ length_header n ∷ [])
    silent is = let states = (knows n stated hs short x).states in let low = s.least in grind (arith, nat_tests)

    -- where the fields state the length, or need not, the connection adds only what it says of itself
    stated_plan : (stated ≡ true) ⊎ (adds ≡ false)
        → planned_for r status (size_for n) hs ≡ Ok (last [] stated bare_stated)
    unfolding planned_for
    stated_plan says =
        let states = (knows n stated hs short x).states in
        let is : adds ≡ false = grind (arith, nat_tests) in rw is (plan_with [] stated bare_stated s.other late kept)

    -- the plan is made, and its field lines are valid
    planned : (plan : WirePlan) × (planned_for r status (size_for n) hs ≡ Ok plan)
        × (list_all is_header (hs ++ plan.extra) ≡ true)
    unfolding planned_for
    planned = elim (cases_Bool adds) [
      | inr is ↦ (last [] stated bare_stated, stated_plan (inr is), (all_stated [] stated bare_stated).valid)
      | inl is ↦
          let e = silent is in
          let added : StatesLength n true (hs ++ length_header n ∷ []) =
          states_both n false true true hs (length_header n ∷ []) (rw e.0 at x) (states_length n short) refl in (
            last (length_header n ∷ []) true added,
            rw (is, e.3) (plan_with (length_header n ∷ []) true added s.other e.2 e.1),
            (all_stated (length_header n ∷ []) true added).valid,
          )
    ]

-- a response with such a status and such fields is sent
pub plan_sent : (limits : Limits) (h : RequestHead) (framing : Framing) (plan : Response) (stated : Bool)
    → content_len plan < 2 ^ 64 → h.minor ≤ 1 → is_field_value (reason_of plan.status) ≡ true
    → StatesLength (content_len plan) stated (plan_fields plan)
    → IsFinal (method_kind h.method) plan.status (content_len plan) stated
    → response_refusal (answering limits h framing) plan.status (reason_of plan.status) (plan_size plan)
    (plan_fields plan) ≡ None
unfolding are_headers
plan_sent limits h framing plan stated short old text x s =
    let p =
    planned (answering limits h framing).request plan.status (content_len plan) (plan_fields plan) short stated x s in
    let line : (nat_lt plan.status 200 ≡ false) × (is_status_line h.minor plan.status (reason_of plan.status) ≡ true) =
    grind (arith, nat_tests, text) in
    simp (line.0, s.connect, p.1, line.1, p.2)

-- ==== Values of the server's own that have no white space at their ends.

pub decimal_trimmed : (n : ℕ) → n < 2 ^ 64 → trim (decimal n) ≡ decimal n
decimal_trimmed n short =
    let is = decimal_is_numeral n short in
    let trimmed = decimal_is_trimmed n in grind (arith, trim_visible (numeral 10 n), and_parts)

-- a date, from the name of its day
abbrev date_from : List ℕ → Parts → List ℕ
date_from day p = day ++ codes ", " ++ two_digits p.day ++ codes " " ++ month_name p.mon ++ codes " "
    ++ four_digits p.year ++ codes " " ++ time_of_day p ++ codes " GMT"

abbrev day_at : ℕ → List ℕ
day_at k = slice_index_or
    (codes "Mon" ∷ codes "Tue" ∷ codes "Wed" ∷ codes "Thu" ∷ codes "Fri" ∷ codes "Sat" ∷ codes "Sun" ∷ []) k []

-- it begins with a letter, or with a comma where there is no such day
date_visible : (k : ℕ) (p : Parts) → starts_visible (date_from (day_at k) p) ≡ true
date_visible (suc (suc (suc (suc (suc (suc zero)))))) p = refl
date_visible k p = refl

date_trimmed : (p : Parts) → trim (imf_fixdate p) ≡ imf_fixdate p
date_trimmed p = search (arith, trim_ended, date_visible, ends_append, codes)

pub fixdate_trimmed : (seconds : ℕ) → trim (fixdate seconds) ≡ fixdate seconds
unfolding fixdate
fixdate_trimmed seconds = date_trimmed (parts_at seconds)

-- ==== A 200 that states its length: the head that is written, and what is around its content.

valid_by : (planned : Result WirePlan WriteError) (line : Bool) (hs : List Header) → plan_refusal planned line hs ≡ None
    → list_all is_header hs ≡ true
unfolding are_headers
valid_by planned line hs none = grind (arith, Ok, and_parts, list_all-append, not_refused, Err)

module _ (tag : List ℕ) (len : ℕ) (media_type : List ℕ) where
  abbrev fields : Option ℕ → List Header
  fields now = ok_fields now tag len media_type

  ok_states : (now : Option ℕ) → list_all is_header (fields now) ≡ true → StatesLength len true (fields now)
  unfolding eq_ignore_case
  ok_states now valid = grind (arith, now)

  quiet : (r : Serving) (now : Option ℕ) → r.minor ≡ 1 → r.keep_alive ≡ true → r.expects_continue ≡ false
      → connection_headers r (known_fields (fields now ++ []))
      (stays_open r (known_fields (fields now ++ [])) (Sized len)) ≡ []
  unfolding known_fields eq_ignore_case
  quiet r now minor keeps waits = grind (arith, now)

  printed : (now : Option ℕ) → response_text 1 200 (reason_of 200) (fields now ++ []) ≡ ok_text now tag len media_type
  unfolding print_response
  printed None = simp append-nil
  printed (Some seconds) = simp append-nil

-- the response, if it is sent at all
module _ (limits : Limits) (h : RequestHead) (framing : Framing) (plan : Response) (now : Option ℕ)
    (tag media_type : List ℕ) (status : plan.status ≡ 200) (short : content_len plan < 2 ^ 64)
    (fields_are : plan_fields plan ≡ ok_fields now tag (content_len plan) media_type) (minor : h.minor ≡ 1)
    (keeps : keeps_alive h.minor (known_of h.fields) ≡ true) (other : is_connect (method_kind h.method) ≡ false)
    (none : response_refusal (answering limits h framing) plan.status (reason_of plan.status) (plan_size plan)
    (plan_fields plan) ≡ None) where
  abbrev s : Server
  s = answering limits h framing

  abbrev n : ℕ
  n = content_len plan

  final : IsFinal (method_kind h.method) 200 n true
  final = grind arith

  -- the head that is written, and that the content is written as it is, if it is not to a HEAD
  pub ok_sent : (head_text s plan ≡ ok_text now tag n media_type) × (writing (after_head s plan)
      ≡ Writes.Body (encoder_for (cond (has_no_body (method_kind h.method) 200) NoBody (Sized n))))
  ok_sent =
      let line = is_status_line h.minor 200 (reason_of 200) in
      let hs : List Header = ok_fields now tag n media_type in
      let valid = valid_by _ _ _ (rw (status, fields_are) at none) in
      let states = ok_states _ n media_type now valid in
      let made = stated_plan s.request 200 n hs short true states final (inl refl) in
      let late : (false || (is_connect (method_kind h.method) && nat_lt 200 300)) ≡ false = final.connect in
      let is = (λ i. response_plan s (status i) (plan_size plan) (fields_are i)) ∙ cond-false _ _ _ late ∙ made in (
        (λ i. response_text (minor i) (status i) (reason_of (status i)) (planned_headers (is i) (fields_are i)))
            ∙ ap (λ (extra : List Header). response_text 1 200 (reason_of 200) (hs ++ extra))
            (quiet _ n media_type s.request now minor keeps refl) ∙ printed tag n media_type now,
        ap (λ (q : Result WirePlan WriteError). writing (responding s q)) is,
      )

-- the head before the content, which is written as it is, and nothing after it
pub framed_literally : (limits : Limits) (h : RequestHead) (framing : Framing) {plan : Response} {server : Server}
    {now : Option ℕ} {tag media_type before tail after rest : List ℕ} → IsOk now tag media_type plan → StaysOpen h
    → Frames false plan (answering limits h framing) before tail server after rest
    → (after ≡ before ++ ok_text now tag (content_len plan) media_type) × (rest ≡ tail)
framed_literally limits h framing {plan} {server} {now} {tag} {media_type} ok stays frames =
    let o = ok_sent limits h framing plan now tag media_type ok.status frames.short ok.fields stays.minor stays.keeps
    (ap is_connect stays.method) frames.valid in grind (arith, append-nil)
