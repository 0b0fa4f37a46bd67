-- Values: they are valid, and mean the octets that they were written for.
use Rattle.std.proofs.Common.{◌≡◌, ℕ, Bool, true, false, not, List, [], ◌∷◌, ◌++◌, Option, Some, None, refl, sym, ◌∙◌}
use Rattle.std.proofs.{Common.{ap, IsTrue, codes, inl, inr}, lemmas.Bool.{cases_Bool, eqb-true, or_parts}}
use Rattle.std.{proofs.lemmas.List.Elements.{All-append, All-cons, All-head, All-nil, All-tail}, specs.Prelude.◌&&◌}
use Rattle.std.specs.{Prelude.{◌||◌, ◌==◌, if◌then◌else◌}, List.flat_map, Option.option_map_or}
use Rattle.http_header.{specs.{FieldValue.IsFieldValue, Token.is_value_byte}, proofs.TokenLemmas.AllPass-from_test}
use Rattle.{headers.specs.Lines.Line, rfc_fields.specs.{Grammar.{backslash, quote}, Values.escape_after}}
use Rattle.rfc_fields.specs.Values.{is_quoted_text, is_skipped, is_token, is_value, octets_from, octets_of, value_text}
use Rattle.gateway_hops.specs.{Arrivals.scheme_text, Elements.{escaped, optional_pair, pair_text, quoted_text}}
use Rattle.gateway_hops.specs.{Elements.value_of, declared.arrival.Scheme.{Scheme, TheVariants.{Http, Https}}}
use Rattle.gateway_hops.proofs.NodeLemmas.{join_valid}

abbrev IsValueByte : ℕ → Type 0
IsValueByte b = IsTrue (is_value_byte b)

abbrev pub is_special : ℕ → Bool
is_special b = b == quote || b == backslash

-- ---- validity

escaped_valid : (b : ℕ) → IsValueByte b → IsFieldValue (escaped b)
escaped_valid b valid = elim (cases_Bool (is_special b)) [
  | inl t ↦ rw t (All-cons IsValueByte backslash (b ∷ []) refl (All-cons IsValueByte b [] valid (All-nil IsValueByte)))
  | inr f ↦ rw f (All-cons IsValueByte b [] valid (All-nil IsValueByte))
]

all_escaped_valid : (octets : Line) → IsFieldValue octets → IsFieldValue (flat_map escaped octets)
all_escaped_valid [] valid = All-nil IsValueByte
all_escaped_valid (b ∷ octets) valid =
    join_valid (escaped b) (flat_map escaped octets) (escaped_valid b (All-head IsValueByte b octets valid))
    (all_escaped_valid octets (All-tail IsValueByte b octets valid))

quoted_valid : (octets : Line) → IsFieldValue octets → IsFieldValue (quoted_text octets)
quoted_valid octets valid = All-cons IsValueByte quote (flat_map escaped octets ++ quote ∷ []) refl
    (join_valid (flat_map escaped octets) (quote ∷ []) (all_escaped_valid octets valid)
    (All-cons IsValueByte quote [] refl (All-nil IsValueByte)))

value_valid : (octets : Line) → IsFieldValue octets → IsFieldValue (value_text (value_of octets))
value_valid octets valid = elim (cases_Bool (is_token octets)) [
  | inl t ↦ rw t valid
  | inr f ↦ rw f (quoted_valid octets valid)
]

pub pair_valid : (name octets : Line) → IsFieldValue name → IsFieldValue octets → IsFieldValue (pair_text name octets)
pair_valid name octets named valid = join_valid name (codes "=" ++ value_text (value_of octets)) named
    (join_valid (codes "=") (value_text (value_of octets)) (AllPass-from_test is_value_byte (codes "=") refl)
    (value_valid octets valid))

pub optional_valid : (name octets : Line) → IsFieldValue name → IsFieldValue octets
    → IsFieldValue (optional_pair name (Some octets))
optional_valid name octets named valid = join_valid (codes ";") (pair_text name octets)
    (AllPass-from_test is_value_byte (codes ";") refl) (pair_valid name octets named valid)

pub scheme_valid : (scheme : Scheme) → IsFieldValue (scheme_text scheme)
scheme_valid Http = AllPass-from_test is_value_byte (codes "http") refl
scheme_valid Https = AllPass-from_test is_value_byte (codes "https") refl

-- ---- what a value means

plain_escape : (b : ℕ) → IsTrue (is_value_byte b) → is_special b ≡ false → escape_after false b ≡ Some false
plain_escape b valid f =
    let p = or_parts (b == quote) (b == backslash) f in
    rw (p.1, valid, p.0) refl

quoted_step : (b : ℕ) (rest : List ℕ) → IsTrue (is_value_byte b)
    → is_quoted_text false (escaped b ++ rest) ≡ is_quoted_text false rest
unfolding is_quoted_text
quoted_step b rest valid = elim (cases_Bool (is_special b)) [
  | inl t ↦ rw t (rw valid refl)
  | inr f ↦ rw f (ap (λ (o : Option Bool). option_map_or (λ next. is_quoted_text next rest) o false)
      (plain_escape b valid f))
]

quoted_parses : (octets : Line) → IsFieldValue octets → is_quoted_text false (flat_map escaped octets) ≡ true
unfolding is_quoted_text
quoted_parses [] valid = refl
quoted_parses (b ∷ octets) valid = quoted_step b (flat_map escaped octets) (All-head IsValueByte b octets valid)
    ∙ quoted_parses octets (All-tail IsValueByte b octets valid)

octets_step : (b : ℕ) (rest : List ℕ) → octets_from false (escaped b ++ rest) ≡ b ∷ octets_from false rest
unfolding octets_from
octets_step b rest = elim (cases_Bool (is_special b)) [
  | inl t ↦ rw t refl
  | inr f ↦ let p = or_parts (b == quote) (b == backslash) f in rw f (rw p.1 refl)
]

quoted_means : (octets : Line) → octets_from false (flat_map escaped octets) ≡ octets
unfolding octets_from
quoted_means [] = refl
quoted_means (b ∷ octets) = octets_step b (flat_map escaped octets) ∙ ap (λ (s : List ℕ). b ∷ s) (quoted_means octets)

pub value_parses : (octets : Line) → IsFieldValue octets → is_value (value_of octets) ≡ true
value_parses octets valid = elim (cases_Bool (is_token octets)) [
  | inl t ↦ rw t t
  | inr f ↦ rw f (quoted_parses octets valid)
]

pub value_means : (octets : Line) → octets_of (value_of octets) ≡ octets
value_means octets = elim (cases_Bool (is_token octets)) [
  | inl t ↦ rw t refl
  | inr f ↦ rw f (quoted_means octets)
]
