-- The place of a name among those of parameters.
use Rattle.std.proofs.Common.{◌≡◌, ◌∙◌, ℕ, ◌+◌, Bool, true, false, cond, List, [], ◌∷◌, length, map, Option, Some}
use Rattle.std.proofs.Common.{None, ap, refl, sym, arith, nat_lt}
use Rattle.std.proofs.lemmas.{Bool.Decides.nat_tests, List.{length-map, Folds.find_at}, Option.slice_get_past}
use Rattle.std.specs.{Prelude.{find, not, option_and_then, position, slice_get}, List.position_or_len, Option.option_or}
use Rattle.{http_header.specs.FieldValue.FieldValue, headers_syntax.specs.{AsciiCase.same_name, Lines.lines_of}}
use Rattle.{rfc_fields.specs.Scan.Member.Whole, rfc_lists.specs.{Attributes.attribute_in, Laws.FirstIsAtItsPlace}}
use Rattle.rfc_lists.specs.{Named.{named, place_named}, declared.named.Counts.TheVariants.First}

module _ {X Y : Type 0} (f : X → Y) (p : Y → Bool) where
  abbrev at : X → Bool
  at x = p (f x)

  first_map : (xs : List X) → position_or_len p (map f xs) ≡ position_or_len at xs
  first_map [] = refl
  first_map (x ∷ xs) = ap (λ n. cond (not (at x)) (1 + n) 0) (first_map xs)

  pub position_map : (xs : List X) → position p (map f xs) ≡ position at xs
  position_map xs = ap (λ n. cond (nat_lt n (length (map f xs))) (Some n) None) (first_map xs)
      ∙ ap (λ l. cond (nat_lt (position_or_len at xs) l) (Some (position_or_len at xs)) None) (length-map xs f)

pub place_in_values : (name : List ℕ) (values : List FieldValue)
    → place_named name (lines_of values) ≡ position (λ (v : FieldValue). same_name v.bytes name) values
place_in_values name values = position_map (λ (v : FieldValue). v.bytes) (λ other. same_name other name) values

module _ {X : Type 0} (p : X → Bool) where
  found : (xs : List X) (n : ℕ) (b : Bool) → nat_lt n (length xs) ≡ b
      → slice_get xs n ≡ option_and_then (slice_get xs) (cond b (Some n) None)
  found xs n true e = refl
  found xs n false e = slice_get_past xs n (grind (arith, nat_tests))

  at_position : (xs : List X) → find p xs ≡ option_and_then (slice_get xs) (position p xs)
  at_position xs = find_at p xs ∙ found xs (position_or_len p xs) _ refl

module _ (name : List ℕ) where
  abbrev has_name : List ℕ → Bool
  has_name text = same_name (attribute_in text).0 name

  step : (text : List ℕ) (b : Bool) (rest other : Option (List ℕ)) → rest ≡ other
      → option_or (cond b (Some text) None) rest ≡ cond b (Some text) other
  step text true rest other e = refl
  step text false rest other e = e

  first_found : (texts : List (List ℕ)) → named First name (map Whole texts) ≡ find has_name texts
  unfolding named
  first_found [] = refl
  first_found (text ∷ texts) = step text (has_name text) _ _ (first_found texts)

pub first_is_at_its_place : FirstIsAtItsPlace
first_is_at_its_place name texts = first_found name texts ∙ at_position (has_name name) texts
    ∙ ap (option_and_then (slice_get texts))
    (sym (position_map (λ text. (attribute_in text).0) (λ other. same_name other name) texts))
