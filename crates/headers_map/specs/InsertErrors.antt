-- The error of a failed insert, and what the map has then.
use Rattle.std.specs.Prelude.{◌≡◌, ◌≢◌, ◌⊎◌, ℕ, ◌<◌, ◌≤◌, List, ◌++◌, length, take, Some, slice_get, codes, decimal}
use Rattle.http_header.{specs.FieldValue.FieldValue, specs.HeaderMap.{Entries, get_all, RefusesAppend}}
use Rattle.http_header.specs.declared.map.HeaderMapError.{HeaderMapError}
use Rattle.http_header.specs.declared.map.HeaderMapError.TheVariants.{MaxSizeReached, OutOfMemory}
use Rattle.headers_syntax.specs.Lines.{Line, lines_of}
use Rattle.headers_map.{specs.LineMap.{lines_at, run}, specs.Typed.HasLine, specs.declared.encoded.Encoded.Encoded}
use Rattle.headers_map.specs.declared.insert.InsertError.{InsertError}
use Rattle.headers_map.{specs.declared.insert.InsertError.TheVariants.{Memory, Full}, specs.declared.steps.Step.Step}
use Rattle.headers_map.{specs.declared.steps.Step.TheVariants.Put, specs.declared.steps.ApplyError.ApplyError}

abbrev pub insert_error_of : HeaderMapError → InsertError
insert_error_of MaxSizeReached = Full
insert_error_of OutOfMemory = Memory

-- what the errors print
abbrev pub insert_error_text : InsertError → List ℕ
insert_error_text Memory = codes "out of memory"
insert_error_text Full = codes "max size reached"

abbrev pub apply_error_text : ApplyError → List ℕ
apply_error_text e = codes "after " ++ decimal e.done ++ codes " steps: " ++ insert_error_text e.cause

-- at least one of the lines but not all, from the first on
abbrev pub IsProperBeginning : List Line → List Line → Type 0
IsProperBeginning begun lines = HasLine begun × ((rest : List Line) × HasLine rest × (begun ++ rest ≡ lines))

-- the name has its old values, or a proper beginning of the lines, of which there are then at least two
abbrev pub KeepsOrBegins : Entries FieldValue → Entries FieldValue → List ℕ → List Line → Type 0
KeepsOrBegins old new name lines = (get_all new name ≡ get_all old name) ⊎ IsProperBeginning (lines_at new name) lines

-- What a failed put leaves at the name. If the error is `Full`, the map has no room for one more line with the name.
-- One line that replaces others always has room.
pub record IsRefusedPut (old new : Entries FieldValue) (name : List ℕ) (lines : List Line) (cause : InsertError)
    : Type 0 where
  pub own : KeepsOrBegins old new name lines
  pub full : cause ≡ Full → RefusesAppend new name
  pub replaces : HasLine (lines_at old name) → length lines ≤ 1 → cause ≢ Full

-- the step is a `Put` that failed, and not one line that replaces others
pub record IsRefusedStep (old new : Entries FieldValue) (step : Step) (cause : InsertError) : Type 0 where
  pub refused : Encoded
  pub is_put : step ≡ Put refused
  pub others : (name : List ℕ) → refused.name ≢ name → get_all new name ≡ get_all old name
  pub left : IsRefusedPut old new refused.name (lines_of refused.lines.items) cause
  pub grows : HasLine (lines_at old refused.name) → length refused.lines.items ≤ 1 → ⊥

-- the first `done` steps are done, the next one failed, and none after it was begun
pub record AppliesPart (old new : Entries FieldValue) (steps : List Step) (error : ApplyError) : Type 0 where
  pub within : error.done < length steps
  pub step : Step
  pub at_done : slice_get steps error.done ≡ Some step
  pub before : Entries FieldValue
  pub ran : (name : List ℕ) → lines_at before name ≡ run (lines_at old) (take error.done steps) name
  pub refused : IsRefusedStep before new step error.cause
