-- The state of an iterator over the items of a value, as a contract sees it.
use Rattle.std.specs.Prelude.{◌≡◌, ◌⊎◌, ℕ, ◌+◌, ◌<◌, ◌≤◌, Bool, true, false, List, [], ◌++◌, length, drop, not, ◌==◌}
use Rattle.std.{specs.Prelude.{filter, Option, None, Some, MatchOption, ⊤, if◌then◌else◌}, specs.Iterator.YieldsFirstBy}
use Rattle.std.specs.List.{slice_range}
use denote.Ref.{Bor}
use Rattle.headers_syntax.specs.Text.{is_text, trim}
use Rattle.headers_items.{specs.Places.{is_counting_place, hits, items_from}, specs.ScanState.{ScanState, end_search}}

-- the text and the separator, where the next piece begins, whether the last piece was yielded, and how far the scan has
-- come
pub record ItemsState : Type 0 where
  pub text : List ℕ
  pub separator : ℕ
  pub start : ℕ
  pub is_done : Bool
  pub place : ℕ
  pub is_ended : Bool
  pub searches : ℕ

-- the items that are left
abbrev pub items_left : ItemsState → List (List ℕ)
items_left s = if s.is_done then [] else items_from s.separator s.text s.start

-- the first state of an iterator over the items of s, before any search; for a value that isn't text it is the end
abbrev pub walk_over : ℕ → List ℕ → ItemsState
walk_over sep s =
    record {
      text = if is_text s then s else [];
      separator = sep;
      start = 0;
      is_done = not (is_text s);
      place = 0;
      is_ended = false;
      searches = 0;
    }

-- no place from i up to j is a counting place
abbrev pub NoCut : ℕ → List ℕ → ℕ → ℕ → Type 0
NoCut sep s i j = (k : ℕ) → i ≤ k → k < j → is_counting_place sep s k ≡ false

-- q is the first counting place at or after place i
pub record IsNextCut (sep : ℕ) (s : List ℕ) (i q : ℕ) : Type 0 where
  pub low : i ≤ q
  pub high : q < length s
  pub before : NoCut sep s i q
  pub here : is_counting_place sep s q ≡ true

-- r is the first counting place at or after place i, if there is one
abbrev pub FindsCut : ℕ → List ℕ → ℕ → Option ℕ → Type 0
FindsCut sep s i r = MatchOption r (NoCut sep s i (length s)) (IsNextCut sep s i)

-- the piece of s from place i is `item`: it ends at a counting place, and p is just past that, or it ends at the end
-- of s, where p is too
abbrev pub GivesPiece : ℕ → List ℕ → ℕ → List ℕ → ℕ → Type 0
GivesPiece sep s i item p =
    ((q : ℕ) × IsNextCut sep s i q × (item ≡ trim (slice_range s i q)) × (p ≡ q + 1))
    ⊎ (NoCut sep s i (length s) × (item ≡ trim (drop i s)) × (p ≡ length s))

-- A call in state s returned r and left state t. The scan is just past the yielded piece, or stays at the end of the
-- text if none is left. So far it made one search for each hit before its place, and one more for the end.
pub record ScansPiece (s : ItemsState) (r : Option (Bor (List ℕ))) (t : ItemsState) : Type 0 where
  pub text : t.text ≡ s.text
  pub separator : t.separator ≡ s.separator
  pub place : MatchOption r ((t.place ≡ s.place) × (t.place ≡ length s.text))
      (λ item. GivesPiece s.separator s.text s.start item.now t.place)
  pub searches : t.searches ≡ hits t.separator t.text t.place + end_search t.is_ended
  pub stops : MatchOption r ((t.searches ≡ s.searches) × (t.is_done ≡ true)) (λ _. ⊤)

-- the place of a scan after the cut r
abbrev pub after_cut : List ℕ → Option ℕ → ℕ
after_cut s None = length s
after_cut s (Some q) = q + 1

-- The fields of an iterator. The scan is over the text. It is where the next piece begins, or at the end once the
-- iterator has ended.
pub record ItemsInvariant (sep : ℕ) (text : List ℕ) (scan : ScanState) (start : ℕ) (is_done : Bool) : Type 0 where
  pub plain : is_text text ≡ true
  pub bytes : scan.bytes ≡ text
  pub separator : scan.separator ≡ sep
  pub within : start ≤ length text
  pub reached : scan.place ≤ length text
  pub at_start : is_done ≡ false → scan.place ≡ start
  pub at_end : is_done ≡ true → scan.place ≡ length text
  pub searches : scan.searches ≡ hits sep text scan.place + end_search scan.is_ended

-- an item that isn't empty
abbrev pub is_entry : List ℕ → Bool
is_entry x = not (length x == 0)

-- the entries that are left: the items that aren't empty
abbrev pub entries_left : ItemsState → List (List ℕ)
entries_left s = filter is_entry (items_left s)

-- a piece of s begins at place j if one begins at i: j is i, or it is just past a counting place at or after i
abbrev pub BeginsPiece : ℕ → List ℕ → ℕ → ℕ → Type 0
BeginsPiece sep s i j =
    (j ≡ i) ⊎ ((q : ℕ) × (i ≤ q) × (q < length s) × (is_counting_place sep s q ≡ true) × (j ≡ q + 1))

-- The piece that begins at `begin` gives the item, p is just past that piece, and no item before it, from state s on,
-- is wanted.
pub record GivesWanted (wanted : List ℕ → Bool) (s : ItemsState) (item : List ℕ) (p : ℕ) : Type 0 where
  pub begin : ℕ
  pub begins : BeginsPiece s.separator s.text s.start begin
  pub skipped : List (List ℕ)
  pub split : items_left s ≡ skipped ++ items_from s.separator s.text begin
  pub passed : filter wanted skipped ≡ []
  pub gives : GivesPiece s.separator s.text begin item p

-- A call of an iterator that yields only the wanted items led from s to t and returned r, which shows an item. The scan
-- is just past its piece, or at the end of the text if none was left. So far it made one search for each hit before its
-- place, and one more for the end. An iterator that has ended makes none.
pub record ScansWanted {A : Type 0} (wanted : List ℕ → Bool) (Shows : A → List ℕ → Type 0) (s : ItemsState)
    (r : Option A) (t : ItemsState) : Type 0 where
  pub text : t.text ≡ s.text
  pub separator : t.separator ≡ s.separator
  pub place : MatchOption r ((t.is_done ≡ true) × (t.place ≡ length s.text)) (λ shown. (item : List ℕ)
      × GivesWanted wanted s item t.place × Shows shown item)
  pub searches : t.searches ≡ hits t.separator t.text t.place + end_search t.is_ended
  pub stays : s.is_done ≡ true → (t.is_done ≡ true) × (t.searches ≡ s.searches)

-- such a call of an iterator over entries
abbrev pub ScansEntry : ItemsState → Option (Bor (List ℕ)) → ItemsState → Type 0
ScansEntry = ScansWanted is_entry (λ entry item. item ≡ entry.now)

-- A call of an iterator led from s to t and returned r. This is the first of what was left in s, as `view` shows it,
-- and `Scans` says how far the scan went.
pub record Walks {A B : Type 0} (view : A → B) (rest : ItemsState → List B)
    (Scans : ItemsState → Option A → ItemsState → Type 0) (s : ItemsState) (r : Option A) (t : ItemsState)
    : Type 0 where
  pub gives : YieldsFirstBy view rest s r t
  pub scans : Scans s r t

-- such a call of an iterator over items
abbrev pub WalksItems : ItemsState → Option (Bor (List ℕ)) → ItemsState → Type 0
WalksItems = Walks (λ item. item.now) items_left ScansPiece

-- such a call of an iterator over entries
abbrev pub WalksEntries : ItemsState → Option (Bor (List ℕ)) → ItemsState → Type 0
WalksEntries = Walks (λ entry. entry.now) entries_left ScansEntry
