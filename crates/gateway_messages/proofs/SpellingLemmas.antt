-- Names without a mark are spelt well, and those that resemble a guarded name are not.
use Rattle.std.proofs.{Common.{arith, ◌≡◌, ◌≢◌, ℕ, Bool, true, false, ◌||◌, List, [], ◌∷◌, refl}, lemmas.Bool.and_from}
use Rattle.std.{proofs.lemmas.{Bool.{cases_Bool, or_parts}, Slice.Eq.bytes_eq-Decides}, specs.Prelude.bytes_eq}
use Rattle.{std.specs.List.list_any, gateway_messages.specs.Spellings.{dashed, guarded_names, has_mark, is_mark}}
use Rattle.gateway_messages.specs.{Spellings.is_misspelt, declared.gateway.Gateway.Gateway}

pub well_spelt : (gateway : Gateway) (name : List ℕ) → has_mark name ≡ false → is_misspelt gateway name ≡ false
unfolding is_misspelt
well_spelt gateway name e = rw e refl

unmarked : (name : List ℕ) → has_mark name ≡ false → dashed name ≡ name
unmarked [] e = refl
unmarked (b ∷ name) e = grind (arith, or_parts, unmarked name (or_parts (is_mark b) (has_mark name) e).1)

or_left : (a b : Bool) → a ≡ true → (a || b) ≡ true
or_left true b e = refl
or_left false b e = absurd (cc e)

pub lookalike : (gateway : Gateway) (name own : List ℕ) → dashed name ≡ own → name ≢ own
    → list_any (bytes_eq own) guarded_names ≡ true → is_misspelt gateway name ≡ true
unfolding is_misspelt
lookalike gateway name own same other guarded =
    grind (arith, cases_Bool, and_from, or_left, gateway, bytes_eq, unmarked)

-- a name that resembles another one is none of these, where none of these does
pub unlisted : (names : List (List ℕ)) (name own : List ℕ) → dashed name ≡ own
    → list_any (λ other. bytes_eq (dashed other) own) names ≡ false → list_any (bytes_eq name) names ≡ false
unlisted [] name own same none = refl
unlisted (other ∷ names) name own same none = grind (
  arith,
  or_parts,
  bytes_eq,
  cases_Bool,
  bytes_eq-Decides,
  unlisted names name own same (or_parts (bytes_eq
      (dashed other) own) (list_any (λ n. bytes_eq (dashed n) own) names) none).1,
)
