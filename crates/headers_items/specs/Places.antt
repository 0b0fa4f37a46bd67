-- Quotes, separators and the places at which a list is cut.
use Rattle.std.specs.Prelude.{◌≡◌, ℕ, zero, suc, ◌+◌, ◌-◌, ◌%◌, ◌<◌, ◌≤◌, Bool, false, ◌&&◌, ◌||◌, ◌==◌, List, []}
use Rattle.std.specs.Prelude.{◌∷◌, map, length, take, drop, filter, count_by, slice_index, if◌then◌else◌}
use Rattle.std.specs.List.{slice_range}
use Rattle.headers_syntax.specs.Text.{is_quote, is_text, trim}

-- b','
abbrev pub comma : ℕ
comma = 44

-- b';'
abbrev pub semicolon : ℕ
semicolon = 59

-- how many quotes are before place p
abbrev pub quotes_before : List ℕ → ℕ → ℕ
quotes_before s p = count_by is_quote (take p s)

abbrev pub is_even : ℕ → Bool
is_even n = n % 2 == 0

-- place p of s is a counting place: the byte there is the separator, with an even number of quotes before it
unfoldable pub is_counting_place : ℕ → List ℕ → ℕ → Bool
is_counting_place sep s p = slice_index s p == sep && is_even (quotes_before s p)

-- the n places from i on
unfoldable pub places : ℕ → ℕ → List ℕ
places i zero = []
places i (suc n) = i ∷ places (i + 1) n

-- the counting places of s from place i on, in order
abbrev pub counting_from : ℕ → List ℕ → ℕ → List ℕ
counting_from sep s i = filter (is_counting_place sep s) (places i (length s - i))

-- s from place i on, cut at the places ps, which are left out
unfoldable pub pieces : List ℕ → ℕ → List ℕ → List (List ℕ)
pieces s i [] = drop i s ∷ []
pieces s i (p ∷ ps) = slice_range s i p ∷ pieces s (p + 1) ps

-- the trimmed pieces from place i on, between neighbouring counting places
abbrev pub items_from : ℕ → List ℕ → ℕ → List (List ℕ)
items_from sep s i = map trim (pieces s i (counting_from sep s i))

-- the items of s; a value that isn't text has none
abbrev pub items : ℕ → List ℕ → List (List ℕ)
items sep s = if is_text s then items_from sep s 0 else []

-- the quotes and the separators of s
abbrev pub marks : ℕ → List ℕ → ℕ
marks sep s = count_by is_quote s + count_by (λ b. b == sep) s

-- the quotes and the counting places of s before place p
unfoldable pub hits : ℕ → List ℕ → ℕ → ℕ
hits sep s p = quotes_before s p + count_by (is_counting_place sep s) (places 0 p)

-- place k of s is a quote or a counting place
abbrev pub is_hit : ℕ → List ℕ → ℕ → Bool
is_hit sep s k = is_quote (slice_index s k) || is_counting_place sep s k

-- there is no quote and no counting place from i up to j
abbrev pub NoHit : ℕ → List ℕ → ℕ → ℕ → Type 0
NoHit sep s i j = (k : ℕ) → i ≤ k → k < j → is_hit sep s k ≡ false
