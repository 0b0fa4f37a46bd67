-- Value-chars, byte by byte.
use Rattle.std.proofs.Common.{◌≡◌, ◌∙◌, ℕ, ◌+◌, ◌<◌, ◌≤◌, ◌==◌, Bool, true, false, List, ◌∷◌, length, get_or, drop}
use Rattle.std.proofs.{Common.{Option, Some, None, ap, sym, add-one, arith, if◌then◌else◌}, lemmas.Bool.cases_Bool}
use Rattle.std.proofs.lemmas.{Bool.false_from_ne_true, List.drop_all, Str.{IsUtf8-from_is_utf8, is_utf8-from_IsUtf8}}
use Rattle.std.{proofs.Math.Seq.drop-cons, specs.{Option.option_map_or, Str.{IsUtf8, is_utf8}, Prelude.◌&&◌}}
use Rattle.{std.specs.List.list_all, rfc_fields.specs.Cuts.cut, rfc_lists.specs.Extended.{are_subtags, are_value_chars}}
use Rattle.rfc_lists.{specs.Extended.{due_after, hyphen, is_subtag, utf8_text}, proofs.SplitLemmas.{is_at, last_piece}}
use Rattle.rfc_lists.proofs.SplitLemmas.{next_piece}

step : (due i : ℕ) (s : List ℕ) → i < length s → are_value_chars due (drop i s)
    ≡ option_map_or (λ next. are_value_chars next (drop (i + 1) s)) (due_after due (get_or s i 0)) false
unfolding are_value_chars
step due i s h = let front : drop i s ≡ get_or s i 0 ∷ drop (i + 1) s = grind (arith, drop-cons, add-one) in
    ap (are_value_chars due) front

pub chars-next : (due i : ℕ) (s : List ℕ) (all : Bool) (r : Option ℕ) → i < length s → r ≡ due_after due (get_or s i 0)
    → all ≡ are_value_chars due (drop i s) → all ≡ option_map_or (λ next. are_value_chars next (drop (i + 1) s)) r false
chars-next due i s all r h n a = grind (arith, step, option_map_or)

pub chars-end : (due i : ℕ) (s : List ℕ) (all : Bool) → length s ≤ i
    → all ≡ are_value_chars due (drop i s) → all ≡ (due == 0)
unfolding are_value_chars
chars-end due i s all h a = a ∙ ap (are_value_chars due) (drop_all i s h)

pub utf8_yes : (bs : List ℕ) → IsUtf8 bs → utf8_text bs ≡ Some bs
utf8_yes bs h = ap (λ b. if b then Some bs else None) (is_utf8-from_IsUtf8 bs h)

pub utf8_no : (bs : List ℕ) → (IsUtf8 bs → ⊥) → utf8_text bs ≡ None
utf8_no bs h =
    ap (λ b. if b then Some bs else None) (false_from_ne_true (is_utf8 bs) (λ e. h (IsUtf8-from_is_utf8 bs e)))

module _ (text first others : List ℕ) (e : cut hyphen text ≡ Some (first, others)) where
  subtags : are_subtags text ≡ (is_subtag first && are_subtags others)
  subtags = ap (list_all is_subtag) (next_piece (is_at hyphen) text first others e)

  pub subtags-next : (all : Bool) → is_subtag first ≡ true → all ≡ are_subtags text → all ≡ are_subtags others
  subtags-next all h a = a ∙ subtags ∙ ap (λ b. b && are_subtags others) h

  pub subtags-wrong : (all : Bool) → is_subtag first ≡ false → all ≡ are_subtags text → false ≡ all
  subtags-wrong all h a = sym (a ∙ subtags ∙ ap (λ b. b && are_subtags others) h)

pub subtags-last : (text : List ℕ) (all : Bool) → cut hyphen text ≡ None → all ≡ are_subtags text → is_subtag text ≡ all
subtags-last text all e a =
    let last = ap (list_all is_subtag) (last_piece (is_at hyphen) text e) in grind (arith, cases_Bool)
