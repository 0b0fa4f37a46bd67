-- What the result of a run says about the bytes of its reader, before and after, and about those of its writer.
use Rattle.std.specs.Prelude.{◌⊎◌, ℕ, ◌<◌, ◌≤◌, Bool, true, false, List, ◌++◌, length, Option, IfSome, Result, Ok, Err}
use Rattle.std.specs.Io.KnownBytes.{Appends, Keeps, IsAtEnd}
use Rattle.headers_section.specs.Section.{input_limit, section, HasNoField, HasTooManyFields}
use Rattle.headers_section.specs.{CanonicalText.IsCanonicalText, declared.status.Outcome.Outcome}
use Rattle.headers_section.specs.{declared.status.RunError.RunError}
use Rattle.headers_section.specs.declared.status.Outcome.TheVariants.{Clean, SomeRefused, NotAField}
use Rattle.headers_section.specs.declared.status.RunError.TheVariants.{Io, Memory, Room}

-- the exit status of a result
abbrev pub status_of : Result Outcome RunError → ℕ
status_of (Ok Clean) = 0
status_of (Ok SomeRefused) = 1
status_of (Ok NotAField) = 2
status_of (Err Io) = 3
status_of (Err Memory) = 4
status_of (Err Room) = 4

-- what the reader had and what it has left, if these are known
module _ (had left : Option (List ℕ)) where
  -- the whole input was read, it is within the limit, and a line before the first empty one is no field
  abbrev pub HasBadLine : Type 0
  HasBadLine = IsAtEnd left × IfSome had (λ input. (length input ≤ input_limit) × HasNoField (section input))

  -- the input is too long, or it was read whole and a map that holds the fields before one of them has no room for it
  abbrev pub HasNoRoom : Type 0
  HasNoRoom =
      IfSome had (λ input. (input_limit < length input)
      ⊎ ((length input ≤ input_limit) × IsAtEnd left × HasTooManyFields input))

-- what the reader had, what it has left, what the writer held and what it holds, if these are known
module _ (had left held holds : Option (List ℕ)) where
  -- the whole input was read, it is within the limit, a map has room for its fields, and its canonical text was
  -- written and nothing else
  abbrev pub WroteText : Bool → Type 0
  WroteText some_refused =
      IsAtEnd left
      × IfSome had (λ input. (length input ≤ input_limit)
      × ¬ (HasTooManyFields input)
      × ((text : List ℕ) × IsCanonicalText input text some_refused × Appends held holds text))

  -- nothing was written, or the whole input was read, it is within the limit,
  -- and a beginning of its canonical text was written
  abbrev pub BeganText : Type 0
  BeganText =
      Keeps held holds
      ⊎ (IsAtEnd left
      × IfSome had (λ input. (length input ≤ input_limit)
      × ((begun : List ℕ) × (rest : List ℕ) × (some_refused : Bool)
      × IsCanonicalText input (begun ++ rest) some_refused
      × Appends held holds begun)))

  -- what each result says
  abbrev pub IsRun : Result Outcome RunError → Type 0
  IsRun (Ok Clean) = WroteText false
  IsRun (Ok SomeRefused) = WroteText true
  IsRun (Ok NotAField) = HasBadLine had left × Keeps held holds
  IsRun (Err Io) = BeganText
  IsRun (Err Memory) = Keeps held holds
  IsRun (Err Room) = HasNoRoom had left × Keeps held holds
