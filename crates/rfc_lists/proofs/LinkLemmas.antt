-- The first link of a text, and the others.
use Rattle.std.proofs.Common.{append-nil, ◌≡◌, ◌∙◌, ℕ, ◌+◌, ◌<◌, true, false, cond, List, [], ◌∷◌, ◌++◌, length, get_or}
use Rattle.std.proofs.Common.{take, drop, refl, ap, add-one, arith, if◌then◌else◌, Option, Some, None, nat_lt}
use Rattle.std.{proofs.{lemmas.{Bool.cases_Bool, List.drop_all}, Math.Seq.drop-cons}, specs.Option.option_map_or}
use Rattle.{std.specs.Prelude.flat_map, headers_syntax.specs.Text.trim, rfc_lists.specs.Links.{after, cut_link}}
use Rattle.rfc_lists.specs.{Links.{line_text, link_len, link_text, links_from, separates}, declared.links.Place.Place}
use Rattle.rfc_lists.specs.declared.links.Place.TheVariants.{Outside}

module _ (place : Place) (i : ℕ) (s : List ℕ) where
  step : i < length s → link_len place (drop i s)
      ≡ cond (separates place (get_or s i 0)) 0 (1 + link_len (after place (get_or s i 0)) (drop (i + 1) s))
  unfolding link_len
  step h = let front : drop i s ≡ get_or s i 0 ∷ drop (i + 1) s = grind (arith, drop-cons, add-one) in
      ap (link_len place) front

  -- the loop's fact, carried over a byte and to the end
  pub next : (place' : Place) (all : ℕ) → i < length s → separates place (get_or s i 0) ≡ false
      → place' ≡ after place (get_or s i 0) → all ≡ i + link_len place (drop i s)
      → all ≡ (i + 1) + link_len place' (drop (i + 1) s)
  next place' all h e n a = grind (arith, step)

  pub here : (all : ℕ) → i < length s → separates place (get_or s i 0) ≡ true
      → all ≡ i + link_len place (drop i s) → all ≡ i
  here all h e a = grind (arith, step)

  pub at_end : (all : ℕ) → length s ≡ i → all ≡ i + link_len place (drop i s) → all ≡ i
  unfolding link_len
  at_end all h a = a ∙ ap (λ (t : List ℕ). i + link_len place t) (drop_all i s (omega (arith, h))) ∙ omega arith

abbrev cut_from : Place → List ℕ → Option (List ℕ × List ℕ)
cut_from place text = if nat_lt (link_len place text) (length text) then Some
    (take (link_len place text) text, drop (link_len place text + 1) text) else None

from_cut : (place : Place) (text : List ℕ) → links_from place text
    ≡ option_map_or (λ (sides : List ℕ × List ℕ). sides.0 ∷ links_from Outside sides.1) (cut_from place text)
    (text ∷ [])
unfolding links_from link_len
from_cut place [] = refl
from_cut place (b ∷ text) = grind (arith, cases_Bool, from_cut (after place b) text)

abbrev shown : List ℕ → List ℕ
shown link = link_text (trim link)

pub next_link : (text first others : List ℕ) → cut_link text ≡ Some (first, others)
    → line_text text ≡ link_text (trim first) ++ line_text others
next_link text first others e = ap (flat_map shown) (rw e at (from_cut Outside text))

pub last_link : (text : List ℕ) → cut_link text ≡ None → line_text text ≡ link_text (trim text)
last_link text e = ap (flat_map shown) (rw e at (from_cut Outside text)) ∙ append-nil _
