-- Pieces that are joined by comma and space have themselves as their entries.
use Rattle.headers_items.proofs.{CutLemmas.HasItemsOf-merge, ItemsLemmas.items_last, PlacesLemmas.counting_place_other}
use Rattle.headers_items.specs.{CutLaw.EvenButLast, Entries.{entries, line_entries}, ItemsState.{NoCut, is_entry}}
use Rattle.headers_items.specs.{Merge.merge, Places.{is_even, items, pieces, places}, Separator.comma_is_separator}
use Rattle.headers_syntax.proofs.PlainLemmas.{is_piece, is_plain, no_quote, plain_bounds, text_piece, trim_piece}
use Rattle.{headers_syntax.specs.Text.{is_quote, is_text}, std.proofs.Common.{List, [], ap, arith, filter, length}}
use Rattle.std.proofs.{Common.{nat_lt, refl, true, ℕ, ◌∙◌, ◌∷◌, ◌≡◌}, lemmas.Bool.{and_parts, ne_eqb}}
use Rattle.std.{proofs.lemmas.{Grind.common_steps, List.{append-nil, Sums.sum_by-cons}}, specs.List.count_by}
use Rattle.std.specs.List.{flat_map, list_all}

no_quotes : (p : List ℕ) → list_all is_plain p ≡ true → count_by is_quote p ≡ 0
no_quotes [] h = refl
no_quotes (b ∷ p) h = grind (arith, plain_bounds b, no_quote b, sum_by-cons, no_quotes p)

items_piece : (p : List ℕ) → list_all is_plain p ≡ true → items 44 p ≡ p ∷ []
items_piece p h =
    grind (arith, common_steps, counting_place_other, text_piece, items_last, trim_piece) steps 400000

-- pieces that are joined
pieces_text : (xs : List (List ℕ)) → list_all is_piece xs ≡ true → list_all is_text xs ≡ true
pieces_text [] h = refl
pieces_text (x ∷ xs) h = grind (arith, pieces_text xs, text_piece x)

pieces_even : (xs : List (List ℕ)) → list_all is_piece xs ≡ true → EvenButLast xs
pieces_even [] h = tt
pieces_even (x ∷ []) h = tt
pieces_even (x ∷ y ∷ xs) h = let p = and_parts (is_piece x) (list_all is_piece (y ∷ xs)) h in
    (ap is_even (no_quotes x (and_parts (nat_lt 0 (length x)) (list_all is_plain x) p.0).1), pieces_even (y ∷ xs) p.1)

pieces_items : (xs : List (List ℕ)) → list_all is_piece xs ≡ true → filter is_entry (flat_map (items 44) xs) ≡ xs
pieces_items [] h = refl
pieces_items (x ∷ xs) h = let p = and_parts (is_piece x) (list_all is_piece xs) h in
    grind (arith, ne_eqb, filter, items_piece, pieces_items xs p.1)

no_items : filter is_entry (items 44 []) ≡ []
unfolding pieces places
no_items = refl

pub entries_joined : (xs : List (List ℕ)) → list_all is_piece xs ≡ true → entries (merge 44 xs ∷ []) ≡ xs
entries_joined [] h = append-nil (line_entries []) ∙ no_items
entries_joined (x ∷ xs) h = append-nil (line_entries (merge 44 (x ∷ xs))) ∙ ap (filter is_entry) (HasItemsOf-merge 44 (x
    ∷ xs) comma_is_separator (pieces_text (x ∷ xs) h) (pieces_even (x ∷ xs) h)) ∙ pieces_items (x ∷ xs) h
