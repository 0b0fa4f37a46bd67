-- Rows are counted line by line.
use Rattle.std.proofs.Common.{◌≡◌, ℕ, ◌+◌, ◌<◌, Bool, cond, List, length, filter, take, map, get_or, sym, ◌∙◌, ap}
use Rattle.std.proofs.{Common.subst, lemmas.List.{get_or-map, length-map, Filters.length-filter_more}}

-- one more item is counted if the test b of it is true
pub length-filter-map_more : {X Y : Type 0} (p : Y → Bool) (v : X → Y) (xs : List X) (i : ℕ) (d : X) (b : Bool)
    → i < length xs → b ≡ p (v (get_or xs i d))
    → length (filter p (take (i + 1) (map v xs))) ≡ length (filter p (take i (map v xs))) + cond b 1 0
length-filter-map_more p v xs i d b within is =
    length-filter_more p (map v xs) i (v d) (subst (λ n. i < n) (sym (length-map xs v)) within)
    ∙ ap (λ c. length (filter p (take i (map v xs))) + cond c 1 0) (ap p (get_or-map v xs i d (v d) within) ∙ sym is)
