-- The pairs of a list, as in the cookies of a request (RFC 6265, section 4.2.1).
use Rattle.std.specs.Prelude.{◌≡◌, ℕ, ◌+◌, Bool, List, take, drop, find, position, ◌==◌, Option, Some, is_some}
use Rattle.std.{specs.Prelude.{option_map, bytes_eq}, specs.Iterator.Runs.{EveryRun, ItemsMapTo}, specs.List.filter_map}
use denote.Ref.{Bor}
use Rattle.headers_syntax.specs.Text.{trim}
use Rattle.headers_items.specs.ItemsState.{ItemsState, items_left, ScansWanted, Walks}

-- a name and its value
abbrev pub Pair : Type 0
Pair = List ℕ × List ℕ

-- b'='
abbrev pub is_equals : ℕ → Bool
is_equals b = b == 61

-- the trimmed halves of an item on both sides of one of its places
abbrev pub halves_at : List ℕ → ℕ → Pair
halves_at item place = (trim (take place item), trim (drop (place + 1) item))

-- the trimmed halves on both sides of the first `=`, if there is one
unfoldable pub pair_of : List ℕ → Option Pair
pair_of item = option_map (halves_at item) (position is_equals item)

-- an item that has an `=`
abbrev pub has_pair : List ℕ → Bool
has_pair item = is_some (pair_of item)

-- the pairs of the items that have an `=`, in order
abbrev pub pairs : List (List ℕ) → List Pair
pairs items = filter_map pair_of items

-- the value of the first pair with that name
abbrev pub first_value : List ℕ → List Pair → Option (List ℕ)
first_value name all = option_map (λ (pair : Pair). pair.1) (find (λ (pair : Pair). bytes_eq pair.0 name) all)

-- the pairs that are left
abbrev pub pairs_left : ItemsState → List Pair
pairs_left s = pairs (items_left s)

-- the pair that two texts show
abbrev pub pair_shown : Bor (List ℕ) × Bor (List ℕ) → Pair
pair_shown pair = (pair.0.now, pair.1.now)

-- a call of an iterator over pairs
abbrev pub ScansPair : ItemsState → Option (Bor (List ℕ) × Bor (List ℕ)) → ItemsState → Type 0
ScansPair = ScansWanted has_pair (λ pair item. pair_of item ≡ Some (pair_shown pair))

-- a call of an iterator over pairs: what it returned, and how far the scan went
abbrev pub WalksPairs : ItemsState → Option (Bor (List ℕ) × Bor (List ℕ)) → ItemsState → Type 0
WalksPairs = Walks pair_shown pairs_left ScansPair

-- each run of an iterator yields the pairs that were left, in order
abbrev pub YieldsPairsInOrder : Type 0
YieldsPairsInOrder = EveryRun WalksPairs (λ run. ItemsMapTo run pair_shown (pairs_left run.from))
