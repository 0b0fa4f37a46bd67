-- The state of a `Scan` as a contract sees it, and what the scan finds.
use Rattle.std.specs.Prelude.{◌≡◌, ℕ, ◌+◌, ◌<◌, ◌≤◌, Bool, true, false, List, length, slice_index, Option, None, Some}
use Rattle.std.specs.Prelude.{MatchOption, if◌then◌else◌}
use Rattle.headers_syntax.specs.Text.{quote}
use Rattle.headers_items.{specs.Places.{is_counting_place, NoHit}, specs.declared.scan.Mark.Mark}

-- the bytes and the separator, the place that the scan has reached, whether it has ended, and how many searches it made
pub record ScanState : Type 0 where
  pub bytes : List ℕ
  pub separator : ℕ
  pub place : ℕ
  pub is_ended : Bool
  pub searches : ℕ

-- m is the first quote or counting place of s at or after place i
pub record IsNextMark (sep : ℕ) (s : List ℕ) (i : ℕ) (m : Mark) : Type 0 where
  pub low : i ≤ m.place
  pub high : m.place < length s
  pub before : NoHit sep s i m.place
  pub a_quote : m.quote ≡ true → slice_index s m.place ≡ quote
  pub a_cut : m.quote ≡ false → is_counting_place sep s m.place ≡ true

-- r is the first quote or counting place at or after place i, if there is one
abbrev pub FindsMark : ℕ → List ℕ → ℕ → Option Mark → Type 0
FindsMark sep s i r = MatchOption r (NoHit sep s i (length s)) (IsNextMark sep s i)

-- the place of a scan after it found r
abbrev pub place_after : List ℕ → Option Mark → ℕ
place_after s None = length s
place_after s (Some m) = m.place + 1

-- one search for the end, once the scan has ended
abbrev pub end_search : Bool → ℕ
end_search is_ended = if is_ended then 1 else 0
