-- Facts on quotes, counting places and hits.
use Rattle.headers_items.specs.Places.{NoHit, counting_from, hits, is_counting_place, is_even, items, marks, places}
use Rattle.{headers_items.specs.Places.quotes_before, headers_syntax.specs.Text.{is_quote, is_text, quote}}
use Rattle.std.proofs.Common.{Bool, List, [], ap, arith, cond, eqb, false, get_or, inl, inr, length, not, refl, subst}
use Rattle.std.proofs.Common.{suc, take, true, zero, ℕ, ◌++◌, ◌+◌, ◌-◌, ◌<◌, ◌∙◌, ◌∷◌, ◌≡◌, ◌≢◌, ◌≤◌}
use Rattle.std.proofs.lemmas.Bool.{and_from, and_left, and_parts, and_right, cases_lt, eq-eqb, eqb-true, ne_eqb}
use Rattle.std.proofs.lemmas.{Bool.{or_parts, Decides.nat_tests}, Grind.common_steps, List.Sums.count_by_more_no}
use Rattle.std.proofs.lemmas.List.Sums.{count_by_more_yes, sum_by-take-le, sum_by_more, sum_by_push}
use Rattle.std.specs.List.{count_by}

-- one more is odd where a number is even
pub is_even-more : (n : ℕ) → is_even (n + 1) ≡ not (is_even n)
is_even-more n = grind (arith, nat_tests)

-- the places up to one more
pub places_more : (i n : ℕ) → places i (suc n) ≡ places i n ++ (i + n) ∷ []
unfolding places
places_more i zero = ap (λ k. k ∷ []) (let e : i ≡ i + 0 = omega arith in e)
places_more i (suc n) = grind (arith, places (i + 1) n, places_more (i + 1) n)

pub count_places_more : (f : ℕ → Bool) (n : ℕ)
    → count_by f (places 0 (n + 1)) ≡ count_by f (places 0 n) + cond (f n) 1 0
count_places_more f n = grind (arith, places_more 0 n, places 0 n, sum_by_push)

-- no quote stands from i up to j
abbrev pub NoQuote : List ℕ → ℕ → ℕ → Type 0
NoQuote s i j = (k : ℕ) → i ≤ k → k < j → is_quote (get_or s k 0) ≡ false

-- what no place from i up to j changes
pub stays : {A : Type 0} (f : ℕ → A) (i j : ℕ) → i ≤ j → ((k : ℕ) → i ≤ k → k < j → f (k + 1) ≡ f k) → f j ≡ f i
stays f i zero l h = ap f (omega arith)
stays f i (suc j) l h = elim (cases_lt j i) [
  | inl lt ↦ ap f (omega arith)
  | inr le ↦ let e : suc j ≡ j + 1 = omega arith in
      ap f e ∙ h j le (omega arith) ∙ stays f i j le (λ k a b. h k a (omega arith))
]

-- where no quote stands, their number stays
pub quotes_along : (s : List ℕ) (i j : ℕ) → i ≤ j → j ≤ length s → NoQuote s i j → quotes_before s j ≡ quotes_before s i
quotes_along s i j le l h =
    stays (quotes_before s) i j le (λ k a b. count_by_more_no is_quote s k 0 (omega arith) (h k a b))

pub quotes_upto : (sep : ℕ) (s : List ℕ) (i j : ℕ) → i ≤ j → j ≤ length s → NoHit sep s i j
    → quotes_before s j ≡ quotes_before s i
quotes_upto sep s i j le l h = quotes_along s i j le l (λ k a b. (or_parts _ _ (h k a b)).0)

-- the hits before the next place
pub hits_more : (sep : ℕ) (s : List ℕ) (p : ℕ) → p < length s
    → hits sep s (p + 1) ≡ hits sep s p + (cond (is_quote (get_or s p 0)) 1 0 + cond (is_counting_place sep s p) 1 0)
unfolding hits
hits_more sep s p l = grind (arith, common_steps, sum_by_more, count_places_more)

-- where there is no hit, their number stays
pub hits_upto : (sep : ℕ) (s : List ℕ) (i j : ℕ) → i ≤ j → j ≤ length s → NoHit sep s i j → hits sep s j ≡ hits sep s i
hits_upto sep s i j le l h = stays (hits sep s) i j le (grind (arith, or_parts, hits_more))

-- nothing stands before the first place
pub hits_zero : (sep : ℕ) (s : List ℕ) → hits sep s 0 ≡ 0
unfolding hits places
hits_zero sep [] = refl
hits_zero sep (x ∷ s) = refl

-- a place is a counting place by its byte and the parity before it
pub counting_place_parts : (sep : ℕ) (s : List ℕ) (p : ℕ) → is_counting_place sep s p ≡ true → (get_or s p 0 ≡ sep)
    × (is_even (quotes_before s p) ≡ true)
unfolding is_counting_place
counting_place_parts sep s p h = let both = and_parts _ _ h in (eqb-true _ _ both.0, both.1)

pub counting_place_from : (sep : ℕ) (s : List ℕ) (p : ℕ) → get_or s p 0 ≡ sep → is_even (quotes_before s p) ≡ true
    → is_counting_place sep s p ≡ true
unfolding is_counting_place
counting_place_from sep s p a b = and_from _ _ (eq-eqb _ _ a) b

pub counting_place_other : (sep : ℕ) (s : List ℕ) (p : ℕ) → get_or s p 0 ≢ sep → is_counting_place sep s p ≡ false
unfolding is_counting_place
counting_place_other sep s p a = and_left _ _ (ne_eqb _ _ a)

pub counting_place_inside : (sep : ℕ) (s : List ℕ) (p : ℕ) → is_even (quotes_before s p) ≡ false
    → is_counting_place sep s p ≡ false
unfolding is_counting_place
counting_place_inside sep s p a = and_right _ _ a

-- the parity after a quote, and after a separator
pub parity_quote : (s : List ℕ) (p : ℕ) → p < length s → get_or s p 0 ≡ quote
    → is_even (quotes_before s (p + 1)) ≡ not (is_even (quotes_before s p))
parity_quote s p l q = ap is_even (count_by_more_yes is_quote s p 0 l (eq-eqb _ _ q)) ∙ is_even-more (quotes_before s p)

pub parity_other : (s : List ℕ) (p : ℕ) → p < length s → get_or s p 0 ≢ quote
    → is_even (quotes_before s (p + 1)) ≡ is_even (quotes_before s p)
parity_other s p l q = ap is_even (count_by_more_no is_quote s p 0 l (ne_eqb _ _ q))

-- no more places count than hold the separator
count_counts : (sep : ℕ) (s : List ℕ) (p : ℕ) → p ≤ length s
    → count_by (is_counting_place sep s) (places 0 p) ≤ count_by (λ b. eqb b sep) (take p s)
unfolding places
count_counts sep s zero l = omega arith
count_counts sep s (suc p) l =
    let Q : ℕ → Type 0 = λ n. count_by (is_counting_place sep s) (places 0 n) ≤ count_by (λ b. eqb b sep) (take n s) in
    let before = count_counts sep s p (omega arith) in let one = count_places_more (is_counting_place sep s) p in
    let more = sum_by_more (λ b. cond (eqb b sep) 1 0) s p 0 (omega arith) in
    let next : Q (p + 1) = grind (arith, eq-eqb, counting_place_parts) in
    subst Q (let e : p + 1 ≡ suc p = omega arith in e) next

-- before a place there are at most as many hits as the text has marks
pub hits-le-marks : (sep : ℕ) (s : List ℕ) (p : ℕ) → p ≤ length s → hits sep s p ≤ marks sep s
unfolding hits
hits-le-marks sep s p l = grind (arith, count_counts sep s p l, sum_by-take-le)

-- a value that is no text has no item
pub items-no_text : (sep : ℕ) (s : List ℕ) → is_text s ≡ false → items sep s ≡ []
items-no_text sep s h = rw h refl

-- one place of `counting_from`
pub counting_step : (sep : ℕ) (s : List ℕ) (i : ℕ) → i < length s → counting_from sep s i ≡ cond
    (is_counting_place sep s i) (i ∷ counting_from sep s (i + 1)) (counting_from sep s (i + 1))
unfolding places
counting_step sep s i l = let n : length s - i ≡ suc (length s - (i + 1)) = omega arith in rw n refl
