-- Parts of a representation: ranges of its positions (RFC 9110, section 14.1.2).
use Rattle.std.specs.Prelude.{ℕ, ◌+◌, ◌-◌, ◌<◌, ◌≤◌, List, All, AllPairs}
use Rattle.decide_preconditions.specs.declared.part.Part.{Part}

-- position p is in the part
abbrev pub Holds : ℕ → Part → Type 0
Holds p part = (part.first ≤ p) × (p ≤ part.last)

-- the part has a position, and all of its positions are below the length
abbrev pub IsPartOf : ℕ → Part → Type 0
IsPartOf len part = (part.first ≤ part.last) × (part.last < len)

-- s ends before t begins, with more than `gap` positions between them
abbrev pub IsApartBefore : ℕ → Part → Part → Type 0
IsApartBefore gap s t = s.last + gap + 1 < t.first

-- the parts of a representation of this length, in order, with more than `gap` positions between any two of them
pub record AreCoalesced (len gap : ℕ) (parts : List Part) : Type 0 where
  pub within : All (IsPartOf len) parts
  pub apart : AllPairs (IsApartBefore gap) parts

-- P holds of position p, or p is between two positions of which P holds, with at most `gap` positions between them:
-- ranges that are so close are sent as one part (section 15.3.7.2).
pub record IsJoined (gap : ℕ) (P : ℕ → Type 0) (p : ℕ) : Type 0 where
  pub before : ℕ
  pub after : ℕ
  pub is_before : P before
  pub is_after : P after
  pub low : before ≤ p
  pub high : p ≤ after
  pub close : after ≤ before + gap + 1

-- how many positions a part has
abbrev pub part_size : Part → ℕ
part_size part = part.last + 1 - part.first
