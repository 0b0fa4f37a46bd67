-- Fields that take the place of others leave the rest as it is.
use Rattle.std.proofs.Common.{◌≡◌, ℕ, Bool, true, false, not, List, [], ◌∷◌, ◌++◌, Option, Some, refl, sym, ◌∙◌, ap}
use Rattle.std.{proofs.Common.{codes, filter, inl, inr, map}, specs.Prelude.{◌||◌, bytes_eq}, specs.List.flat_map}
use Rattle.std.{specs.List.list_any, proofs.lemmas.Bool.{and_parts, cases_Bool, not-true, or_parts}}
use Rattle.std.{proofs.lemmas.List.append-nil, proofs.lemmas.Slice.Eq.bytes_eq-Decides}
use Rattle.headers.specs.LineMap as Encodings
use Rattle.{headers.specs.Lines.Line, gateway_messages.specs.FieldLines.{Field, lines_under}}
use Rattle.gateway_messages.specs.{Forwarding.framing_names, Recipients.{KnowsPlain, Recipient, framing_by}}
use Rattle.gateway_messages.{specs.Recipients.lines_where, proofs.RecipientLemmas.lines_where-append}
use Rattle.gateway_hops.specs.Replaced.{frame_nothing, frames, has_field, lines_with_name, replaced_by}

-- ---- the field lines whose name passes a test

module _ (test : List ℕ → Bool) (own : List Encodings.Field)
    (apart : (name : List ℕ) → test name ≡ true → has_field own name ≡ false) where
  -- those of other names stay
  stays : (fields : List Field)
      → lines_where test (filter (λ field. not (has_field own field.0)) fields) ≡ lines_where test fields
  stays [] = refl
  stays (field ∷ fields) = elim (cases_Bool (test field.0)) [
    | inl t ↦ rw (apart field.0 t) (rw t (ap (λ lines. field.1 ∷ lines) (stays fields)))
    | inr f ↦ elim (cases_Bool (has_field own field.0)) [
      | inl h ↦ rw h (rw f (stays fields))
      | inr n ↦ rw n (rw f (stays fields))
    ]
  ]

-- a name that doesn't pass has none
none_with_name : (test : List ℕ → Bool) (name : List ℕ) (lines : List Line) → test name ≡ false
    → lines_where test (map (λ line. (name, line)) lines) ≡ []
none_with_name test name [] f = refl
none_with_name test name (line ∷ lines) f = rw f (none_with_name test name lines f)

-- nor do fields none of which passes
none_own : (test : List ℕ → Bool) (own : List Encodings.Field)
    → ((name : List ℕ) → test name ≡ true → has_field own name ≡ false)
    → lines_where test (flat_map lines_with_name own) ≡ []
none_own test [] apart = refl
none_own test (field ∷ own) apart =
    let fails : test field.0 ≡ false = elim (cases_Bool (test field.0)) [
      | inl t ↦ absurd (cc (
        (or_parts (bytes_eq field.0 field.0) (has_field own field.0) (apart field.0 t)).0,
        (bytes_eq-Decides field.0 field.0).1 refl,
      ))
      | inr f ↦ f
    ] in
    let below : (name : List ℕ) → test name ≡ true → has_field own name ≡ false
    = λ name t. (or_parts (bytes_eq field.0 name) (has_field own name) (apart name t)).1 in
    lines_where-append test (lines_with_name field) (flat_map lines_with_name own)
    ∙ ap (λ lines. lines ++ lines_where test (flat_map lines_with_name own)) (none_with_name test field.0 field.1 fails)
    ∙ none_own test own below

-- so the fields leave what passes as it is
pub replaced_where : (test : List ℕ → Bool) (own : List Encodings.Field) (fields : List Field)
    → ((name : List ℕ) → test name ≡ true → has_field own name ≡ false)
    → lines_where test (replaced_by own fields) ≡ lines_where test fields
replaced_where test own fields apart =
    lines_where-append test (filter (λ field. not (has_field own field.0)) fields) (flat_map lines_with_name own)
    ∙ ap (λ lines. lines_where test (filter (λ field. not (has_field own field.0)) fields) ++ lines)
    (none_own test own apart)
    ∙ append-nil (lines_where test (filter (λ field. not (has_field own field.0)) fields))
    ∙ stays test own apart fields

-- ---- one name

same_name : (own : List Encodings.Field) (name other : List ℕ) → bytes_eq other name ≡ true
    → has_field own name ≡ false → has_field own other ≡ false
same_name own name other t f =
    let same : other ≡ name = (bytes_eq-Decides other name).0 t in ap (has_field own) same ∙ f

pub replaced_others : (own : List Encodings.Field) (fields : List Field) (name : List ℕ)
    → has_field own name ≡ false → lines_under (replaced_by own fields) name ≡ lines_under fields name
replaced_others own fields name f =
    replaced_where (λ other. bytes_eq other name) own fields (λ other t. same_name own name other t f)

-- ---- framing

unframed : (own : List Encodings.Field) (name : List ℕ) → frame_nothing own ≡ true → frames name ≡ true
    → has_field own name ≡ false
unframed [] name none framing = refl
unframed (field ∷ own) name none framing =
    let p = and_parts (not (frames field.0)) (frame_nothing own) none in
    let other : frames field.0 ≡ false = not-true _ p.0 in
    let below : has_field own name ≡ false = unframed own name p.1 framing in
    elim (cases_Bool (bytes_eq field.0 name)) [
      | inl t ↦
          let same : field.0 ≡ name = (bytes_eq-Decides field.0 name).0 t in
          let framed : frames field.0 ≡ true = ap frames same ∙ framing in absurd (cc (other, framed))
      | inr f ↦ rw f below
    ]

pub replaced_framing : (own : List Encodings.Field) (fields : List Field) (recipient : Recipient)
    → frame_nothing own ≡ true → KnowsPlain recipient
    → framing_by recipient (replaced_by own fields) ≡ framing_by recipient fields
replaced_framing own fields recipient none k =
    let lengths : lines_where recipient.is_length (replaced_by own fields) ≡ lines_where recipient.is_length fields =
    replaced_where recipient.is_length own fields (λ name t. unframed own name none
    (ap (λ (n : List ℕ). list_any (bytes_eq n) framing_names) (k.length_names name t))) in
    let codings : lines_where recipient.is_coding (replaced_by own fields) ≡ lines_where recipient.is_coding fields =
    replaced_where recipient.is_coding own fields (λ name t. unframed own name none
    (ap (λ (n : List ℕ). list_any (bytes_eq n) framing_names) (k.coding_names name t))) in
    ap (λ lines. recipient.delimits lines (lines_where recipient.is_coding (replaced_by own fields))) lengths
    ∙ ap (λ lines. recipient.delimits (lines_where recipient.is_length fields) lines) codings
