-- What is text.
use Rattle.std.proofs.Common.{Bool, List, [], ap, arith, drop, false, refl, take, true, ℕ, ◌++◌, ◌-◌, ◌∙◌, ◌∷◌, ◌≡◌}
use Rattle.std.proofs.lemmas.List.{Folds.list_all-append, Sums.{AllPass-from_list_all, list_all-from_AllPass}}
use Rattle.{headers_syntax.specs.Text.{is_blank, is_quote, is_text, quote}, std.proofs.lemmas.Grind.common_steps}
use Rattle.std.proofs.lemmas.{Bool.{Decides.nat_tests, and_from, false_from_ne_true, ne_eqb}, List.take-append-drop}
use Rattle.http_header.specs.{FieldValue.{IsFieldValue, IsVisibleAscii}, Token.{is_token_byte, is_visible_or_blank}}
use Rattle.{http_header.proofs.TokenLemmas.token_byte_range, std.specs.List.{list_all, slice_range}}

pub is_text-from_visible : (s : List ℕ) → IsVisibleAscii s → is_text s ≡ true
is_text-from_visible s h = list_all-from_AllPass is_visible_or_blank s h

pub visible-from_is_text : (s : List ℕ) → is_text s ≡ true → IsVisibleAscii s
visible-from_is_text s h = AllPass-from_list_all is_visible_or_blank s h

pub no_text : (s : List ℕ) → (IsVisibleAscii s → ⊥) → is_text s ≡ false
no_text s h = false_from_ne_true _ (λ e. h (visible-from_is_text s e))

-- a test of each element, in two parts
pub list_all-parts : (f : ℕ → Bool) (xs ys : List ℕ) → list_all f (xs ++ ys) ≡ true → (list_all f xs ≡ true)
    × (list_all f ys ≡ true)
list_all-parts f [] ys h = (refl, h)
list_all-parts f (x ∷ xs) ys h = grind (arith, common_steps, and_from)

pub list_all-both : (f : ℕ → Bool) (xs ys : List ℕ) → list_all f xs ≡ true → list_all f ys ≡ true
    → list_all f (xs ++ ys) ≡ true
list_all-both f xs ys a b = list_all-append f xs ys ∙ and_from _ _ a b

-- a part of a text is text
pub is_text-slice : (s : List ℕ) (i j : ℕ) → is_text s ≡ true → is_text (slice_range s i j) ≡ true
is_text-slice s i j h =
    let rest = (list_all-parts is_visible_or_blank (take i s) (drop i s) (ap is_text (take-append-drop i s) ∙ h)).1 in
    (list_all-parts is_visible_or_blank (take (j - i) (drop i s)) (drop (j - i) (drop i s))
    (ap is_text (take-append-drop (j - i) (drop i s)) ∙ rest)).0

-- a byte of a token is no space or tab, and no quote
pub token_no_blank : (b : ℕ) → is_token_byte b ≡ true → is_blank b ≡ false
token_no_blank b t = let range = token_byte_range b t in grind (arith, nat_tests)

pub token_no_quote : (b : ℕ) → is_token_byte b ≡ true → is_quote b ≡ false
unfolding is_token_byte
token_no_quote b t = grind (arith, ne_eqb)

-- a value that is not refused is one
pub IsFieldValue-from_kept : (bytes : List ℕ) → ¬ (¬ (IsFieldValue bytes)) → IsFieldValue bytes
IsFieldValue-from_kept bytes kept = grind (arith, AllPass-from_list_all, list_all-from_AllPass)
