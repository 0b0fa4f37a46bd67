-- The pieces of a list by one pass over its bytes, and the law of joined lines.
use Rattle.headers_items.proofs.PlacesLemmas.{counting_place_parts, counting_step, is_even-more, parity_other}
use Rattle.headers_items.{proofs.PlacesLemmas.parity_quote, specs.{CutLaw.{AreCuts, HasItemsOf, IsMerged}, Merge.merge}}
use Rattle.headers_items.specs.Places.{counting_from, is_counting_place, is_even, items, pieces, places, quotes_before}
use Rattle.{headers_items.specs.Separator.IsSeparator, headers_syntax.proofs.TextLemmas.{list_all-both, list_all-parts}}
use Rattle.headers_syntax.specs.Text.{is_blank, is_quote, is_text, quote, trim}
use Rattle.{http_header.specs.Token.is_visible_or_blank, std.proofs.Common.{Bool, List, [], ap, append-nil, arith}}
use Rattle.std.proofs.Common.{cond, drop, eqb, false, get_or, inl, inr, length, map, not, refl, suc, sym, take, true}
use Rattle.std.proofs.Common.{zero, ℕ, ⊎_elim, ◌&&◌, ◌++◌, ◌+◌, ◌-◌, ◌<◌, ◌∙◌, ◌∷◌, ◌≡◌, ◌≢◌, ◌≤◌}
use Rattle.std.proofs.lemmas.{Bool.{and_from, and_parts, cases_Bool, eqb-false, false≢true, ne_eqb}, Grind.common_steps}
use Rattle.std.proofs.lemmas.List.{drop-drop, drop-take, drop_all, drop_more, map-append, take-append-drop, take-take}
use Rattle.std.{proofs.lemmas.List.Sums.{sum_by-append, sum_by-cons}, specs.List.{count_by, filter, flat_map, list_all}}
use Rattle.std.specs.List.{onto_first, prefix_len, slice_range}

-- the pieces by one pass, where `even` says whether an even number of quotes stands before
pub cuts : ℕ → Bool → List ℕ → List (List ℕ)
cuts sep even [] = [] ∷ []
cuts sep even (x ∷ xs) = cond (is_quote x) (onto_first x (cuts sep (not even) xs))
    (cond (eqb x sep && even) ([] ∷ cuts sep even xs) (onto_first x (cuts sep even xs)))

-- the parity after some bytes
pub parity_after : Bool → List ℕ → Bool
parity_after even [] = even
parity_after even (x ∷ xs) = parity_after (cond (is_quote x) (not even) even) xs

-- ---- joined lists

-- a pass gives a piece at least
cuts_some : (sep : ℕ) (even : Bool) (s : List ℕ) → cuts sep even s ≢ []
unfolding cuts
cuts_some sep even [] e = cc e
cuts_some sep even (x ∷ xs) e = grind arith

onto-append : (x : ℕ) (ps qs : List (List ℕ)) → ps ≢ [] → onto_first x (ps ++ qs) ≡ onto_first x ps ++ qs
onto-append x [] qs some = absurd (some refl)
onto-append x (p ∷ ps) qs some = refl

-- a step of the pass: at a quote, at a separator at a counting place, at another byte
pub cuts_quote : (sep : ℕ) (even : Bool) (x : ℕ) (xs : List ℕ) → is_quote x ≡ true
    → cuts sep even (x ∷ xs) ≡ onto_first x (cuts sep (not even) xs)
unfolding cuts
cuts_quote sep even x xs q = rw q refl

pub cuts_byte : (sep : ℕ) (even : Bool) (x : ℕ) (xs : List ℕ) → is_quote x ≡ false → (eqb x sep && even) ≡ false
    → cuts sep even (x ∷ xs) ≡ onto_first x (cuts sep even xs)
unfolding cuts
cuts_byte sep even x xs q e = rw (q, e) refl

-- cut between two lists, where an even number of quotes stands before
pub cuts-append : (sep : ℕ) (even : Bool) (a b : List ℕ) → sep ≢ quote → parity_after even a ≡ true
    → cuts sep even (a ++ sep ∷ b) ≡ cuts sep even a ++ cuts sep true b
unfolding cuts parity_after
cuts-append sep even [] b ne p = grind arith
cuts-append sep even (x ∷ xs) b ne p =
    let turned = onto-append x (cuts sep (not even) xs) (cuts sep true b) (grind (arith, common_steps, cuts_some)) in
    let kept = onto-append x (cuts sep even xs) (cuts sep true b) (cuts_some sep even xs) in
    grind (arith, cuts-append sep (not even) xs b ne, cuts-append sep even xs b ne)

-- a space before the first piece is trimmed off
map_trim_onto : (ps : List (List ℕ)) → ps ≢ [] → map trim (onto_first 32 ps) ≡ map trim ps
map_trim_onto [] some = absurd (some refl)
map_trim_onto (p ∷ ps) some = let e : 1 + prefix_len is_blank p ≡ suc (prefix_len is_blank p) = omega arith in rw e refl

cuts_space : (sep : ℕ) (s : List ℕ) → sep ≢ 32 → cuts sep true (32 ∷ s) ≡ onto_first 32 (cuts sep true s)
unfolding cuts
cuts_space sep s ne = grind arith

-- ---- the pieces at the counting places are those of the pass

-- the first of the places is at or after i
HeadFrom : ℕ → List ℕ → Type 0
HeadFrom i [] = Unit {0}
HeadFrom i (p ∷ ps) = i ≤ p

head_from : (f : ℕ → Bool) (j i n : ℕ) → j ≤ i → HeadFrom j (filter f (places i n))
unfolding places HeadFrom
head_from f j i zero l = tt
head_from f j i (suc n) l = ⊎_elim (λ y. rw y l) (λ y. rw y (head_from f j (i + 1) n (omega arith))) (cases_Bool (f i))

pieces_onto : (s : List ℕ) (i : ℕ) (ps : List ℕ) → i < length s → HeadFrom (i + 1) ps
    → pieces s i ps ≡ onto_first (get_or s i 0) (pieces s (i + 1) ps)
unfolding pieces HeadFrom
pieces_onto s i [] l h = rw (drop_more s i 0 l) refl
pieces_onto s i (p ∷ ps) l h = let n : p - i ≡ suc (p - (i + 1)) = omega arith in rw (drop_more s i 0 l, n) refl

pub pieces_cuts : (sep : ℕ) (s : List ℕ) (i n : ℕ) → sep ≢ quote → i + n ≡ length s
    → pieces s i (counting_from sep s i) ≡ cuts sep (is_even (quotes_before s i)) (drop i s)
unfolding pieces cuts places is_counting_place
pieces_cuts sep s i zero ne e = let n : length s - i ≡ 0 = omega arith in rw (n, drop_all i s (omega arith)) refl
pieces_cuts sep s i (suc n) ne e = let l : i < length s = omega arith in
    let later = pieces_cuts sep s (i + 1) n ne (omega arith) in let nothing : i - i ≡ 0 = omega arith in
    rw (counting_step sep s i l, drop_more s i 0 l) (elim (cases_Bool (is_counting_place sep s i)) [
      | inl here ↦ grind (arith, counting_place_parts sep s i here, parity_other, ne_eqb)
      | inr other ↦
          let onto = pieces_onto s i (counting_from sep s (i + 1)) l (head_from (is_counting_place sep s) (i + 1)
          (i + 1) (length s - (i + 1)) (omega arith)) in grind (arith, parity_quote, parity_other, eqb-false)
    ])

-- ---- the law of joined lines

parity_count : (n : ℕ) (s : List ℕ) → parity_after (is_even n) s ≡ is_even (n + count_by is_quote s)
unfolding parity_after
parity_count n [] = ap is_even (let e : n ≡ n + 0 = omega arith in e)
parity_count n (x ∷ xs) = grind
    (arith, sum_by-cons (λ y. cond (is_quote y) 1 0) x xs, is_even-more n, parity_count n xs, parity_count (n + 1) xs)

pub zero_even : (s : List ℕ) → is_even (quotes_before s 0) ≡ true
zero_even [] = refl
zero_even (x ∷ s) = refl

pub items_cuts : (sep : ℕ) (s : List ℕ) → sep ≢ quote → is_text s ≡ true → items sep s ≡ map trim (cuts sep true s)
items_cuts sep s ne t = rw (t, pieces_cuts sep s 0 (length s) ne (omega arith), zero_even s) refl

-- the text before a separator, the separator and the text after it
text_parts : (sep : ℕ) (a b : List ℕ) → is_text (a ++ sep ∷ b) ≡ true → (is_text a ≡ true) × (is_text b ≡ true)
text_parts sep a b t = grind (arith, common_steps, list_all-parts)

text_joined : (sep : ℕ) (a b : List ℕ) → IsSeparator sep → is_text a ≡ true → is_text b ≡ true
    → is_text (a ++ sep ∷ 32 ∷ b) ≡ true
text_joined sep a b f ta tb = list_all-both is_visible_or_blank a (sep ∷ 32 ∷ b) ta (and_from _ _ f.is_text tb)

-- a text cut at a counting place has the items of its parts
pub items_apart : (sep : ℕ) (a b : List ℕ) → IsSeparator sep → is_text (a ++ sep ∷ b) ≡ true
    → is_even (count_by is_quote a) ≡ true → items sep (a ++ sep ∷ b) ≡ items sep a ++ items sep b
items_apart sep a b f t p = grind (arith, common_steps, text_parts, parity_count, items_cuts, cuts-append, map-append)

-- a space at the head of a text is trimmed off
items_space : (sep : ℕ) (b : List ℕ) → IsSeparator sep → is_text b ≡ true → items sep (32 ∷ b) ≡ items sep b
items_space sep b f t = let no_space : sep ≢ 32 = λ e. false≢true (sym f.no_blank ∙ ap is_blank e) in
    items_cuts sep (32 ∷ b) f.no_quote t ∙ ap (map trim) (cuts_space sep b no_space) ∙ map_trim_onto (cuts sep true b)
    (cuts_some sep true b) ∙ sym (items_cuts sep b f.no_quote t)

-- two texts, joined after an even number of quotes
pub items_joined : (sep : ℕ) (a b : List ℕ) → IsSeparator sep → is_text a ≡ true → is_text b ≡ true
    → is_even (count_by is_quote a) ≡ true → items sep (a ++ sep ∷ 32 ∷ b) ≡ items sep a ++ items sep b
items_joined sep a b f ta tb p = grind (arith, common_steps, items_apart, text_joined, items_space)

is_text_merge : (sep : ℕ) (lines : List (List ℕ)) → IsSeparator sep → list_all is_text lines ≡ true
    → is_text (merge sep lines) ≡ true
is_text_merge sep [] f h = refl
is_text_merge sep (x ∷ []) f h = (and_parts _ _ h).0
is_text_merge sep (x ∷ y ∷ ys) f h = let parts = and_parts (is_text x) (list_all is_text (y ∷ ys)) h in
    text_joined sep x (merge sep (y ∷ ys)) f parts.0 (is_text_merge sep (y ∷ ys) f parts.1)

-- the items of joined lines
pub HasItemsOf-merge : (sep : ℕ) (lines : List (List ℕ)) → IsSeparator sep → HasItemsOf sep lines (merge sep lines)
HasItemsOf-merge sep [] f = tt
HasItemsOf-merge sep (x ∷ []) f = λ t e. sym (append-nil (items sep x))
HasItemsOf-merge sep (x ∷ y ∷ ys) f = λ t e. let parts = and_parts (is_text x) (list_all is_text (y ∷ ys)) t in
    items_joined sep x (merge sep (y ∷ ys)) f parts.0 (is_text_merge sep (y ∷ ys) f parts.1) e.0 ∙ ap
    (λ r. items sep x ++ r) (HasItemsOf-merge sep (y ∷ ys) f parts.1 e.1)

-- lines that a value was cut into, each time at a separator with an even number of quotes before it, which is left out
abbrev pub IsCutInto : ℕ → List ℕ → List (List ℕ) → Type 0
IsCutInto sep s [] = ⊥
IsCutInto sep s (x ∷ []) = s ≡ x
IsCutInto sep s (x ∷ y ∷ ys) = (rest : List ℕ) × (s ≡ x ++ sep ∷ rest) × (is_even (count_by is_quote x) ≡ true)
    × IsCutInto sep rest (y ∷ ys)

-- lines that a text was cut into are text and have its items when they are merged, and have its items one after the
-- other
pub items_recut : (sep : ℕ) (s : List ℕ) (lines : List (List ℕ)) → IsSeparator sep → is_text s ≡ true
    → IsCutInto sep s lines → (is_text (merge sep lines) ≡ true) × (items sep (merge sep lines) ≡ items sep s)
    × (flat_map (items sep) lines ≡ items sep s)
items_recut sep s [] f t h = absurd h
items_recut sep s (x ∷ []) f t h = rw (← h) (t, refl, append-nil (items sep s))
items_recut sep s (x ∷ y ∷ ys) f t h = let t' : is_text (x ++ sep ∷ h.0) ≡ true = rw h.1 at t in
    let parts = text_parts sep x h.0 t' in let later = items_recut sep h.0 (y ∷ ys) f parts.1 h.3 in
    grind (arith, common_steps, items_apart, text_joined, merge, items_joined)

-- the front up to p is the front up to i, and the slice between
take_slice : (s : List ℕ) (i p : ℕ) → i ≤ p → take p s ≡ take i s ++ slice_range s i p
take_slice s i p l =
    grind (arith, drop i (take p s), take p s, drop-take i (p - i) s, take-append-drop i (take p s), take-take i p s l)

-- between two places with an even number of quotes before, the quotes are even
even_slice : (s : List ℕ) (i p : ℕ) → i ≤ p → is_even (quotes_before s i) ≡ true → is_even (quotes_before s p) ≡ true
    → is_even (count_by is_quote (slice_range s i p)) ≡ true
even_slice s i p l h k = grind (arith, take_slice s i p l, take i s, sum_by-append)

-- what is left from i, cut at p
drop_split : (s : List ℕ) (i p sep : ℕ) → i ≤ p → p < length s → get_or s p 0 ≡ sep
    → drop i s ≡ slice_range s i p ++ sep ∷ drop (p + 1) s
drop_split s i p sep l h b = let e : i + (p - i) ≡ p = omega arith in
    let rest : drop (p - i) (drop i s) ≡ sep ∷ drop (p + 1) s = rw (drop-drop, e, drop_more s p 0 h, b) refl in
    sym (take-append-drop (p - i) (drop i s)) ∙ ap (λ r. slice_range s i p ++ r) rest

-- pieces at counting places are lines that a text was cut into
pub IsCutInto-pieces : (sep : ℕ) (s : List ℕ) (i : ℕ) (ps : List ℕ) → sep ≢ quote → is_even (quotes_before s i) ≡ true
    → AreCuts sep s i ps → IsCutInto sep (drop i s) (pieces s i ps)
unfolding pieces
IsCutInto-pieces sep s i [] ne h c = refl
IsCutInto-pieces sep s i (p ∷ []) ne h c = let here = counting_place_parts sep s p c.2 in
    (drop (p + 1) s, drop_split s i p sep c.0 c.1 here.0, even_slice s i p c.0 h here.1, refl)
IsCutInto-pieces sep s i (p ∷ q ∷ qs) ne h c = let here = counting_place_parts sep s p c.2 in
    let even : is_even (quotes_before s (p + 1)) ≡ true = parity_other s p c.1 (λ e. ne (sym here.0 ∙ e)) ∙ here.1 in
    grind (arith, common_steps, drop, drop_split, even_slice, IsCutInto-pieces sep s (p + 1) (q ∷ qs) ne even c.3)

-- a text cut at counting places has the items of its pieces, merged or one after the other
pub items_of_pieces : (sep : ℕ) (s ps : List ℕ) → IsSeparator sep → is_text s ≡ true → AreCuts sep s 0 ps
    → (items sep (merge sep (pieces s 0 ps)) ≡ items sep s) × (flat_map (items sep) (pieces s 0 ps) ≡ items sep s)
items_of_pieces sep s ps f t c = grind (arith, common_steps, IsCutInto-pieces, zero_even, items_recut)

pub items_cut_at : (sep : ℕ) (s : List ℕ) (ps : List ℕ) → IsSeparator sep → is_text s ≡ true → AreCuts sep s 0 ps
    → items sep (merge sep (pieces s 0 ps)) ≡ items sep s
items_cut_at sep s ps f t c = (items_of_pieces sep s ps f t c).0

pub IsMerged-from : (sep : ℕ) (lines : List (List ℕ)) (value : List ℕ) → IsSeparator sep → value ≡ merge sep lines
    → IsMerged sep lines value
IsMerged-from sep lines value f e = grind (arith, common_steps, HasItemsOf-merge, merge, items_cut_at)
