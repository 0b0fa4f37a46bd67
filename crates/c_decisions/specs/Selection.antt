-- Which part of a representation a request selects, by what a caller hands in.
use Rattle.std.specs.Prelude.{◌≡◌, ◌⊎◌, ⊤, ℕ, false, List, [], map, Result, Ok, Err}
use Rattle.{http_header.specs.{FieldValue.FieldValue, HeaderMap.Entries, Token.IsToken}, headers.specs.LineMap.lines_at}
use Rattle.{headers_section.specs.Section.Holds, decide_preconditions.specs.Limits.usual_limits}
use Rattle.decide_preconditions.specs.Selection.{Applies, Selects as SelectsOf}
use Rattle.decide_preconditions.specs.declared.{part.Part.Part, resource.TargetState.TheVariants.Current}
use Rattle.decide_preconditions.specs.declared.{resource.Validators.Validators, selection.Selection.Selection}
use Rattle.decide_preconditions.specs.declared.selection.Selection.TheVariants.{Whole, Parts, Unsatisfiable}
use Rattle.c_parts.specs.{Endings.TellsAndWrites, SectionMap.IsMapOf, declared.status.Failure.Failure}
use Rattle.{c_parts.specs.declared.status.Failure.TheVariants.{Memory, Absent}, c_decisions.specs.Methods.IsMethodOf}
use Rattle.c_decisions.specs.{Targets.IsResourceOf, declared.request.RequestTexts.RequestTexts}
use Rattle.c_decisions.specs.declared.{target.TargetFacts.TargetFacts, selection.BytesRange.BytesRange}
use Rattle.c_decisions.specs.declared.selection.Selected.{Selected}

abbrev pub range_of : Part → BytesRange
range_of part = record { first = part.first; last = part.last }

-- the status of a selection, and its parts
abbrev pub IsShown : Selection → ℕ → List BytesRange → Type 0
IsShown Whole code ranges = (code ≡ 200) × (ranges ≡ [])
IsShown Unsatisfiable code ranges = (code ≡ 416) × (ranges ≡ [])
IsShown (Parts parts) code ranges = (code ≡ 206) × (ranges ≡ map range_of parts.items)

-- parts are selected
abbrev pub ArePartsOf : Selection → Type 0
ArePartsOf Whole = ⊥
ArePartsOf Unsatisfiable = ⊥
ArePartsOf (Parts parts) = ⊤

-- the method, the target and the fields of the section are those that were handed in, and this is their selection
pub record IsSelected (method input : List ℕ) (target : TargetFacts) (length : ℕ) (selected : Selected) : Type 0 where
  pub is_method : IsToken method
  pub current : Validators
  pub is_resource : IsResourceOf target (Ok (Current current))
  pub request : Entries FieldValue
  pub holds : Holds input request
  pub selection : Selection
  pub selects : SelectsOf target.present method (lines_at request) current length usual_limits selection
  pub shown : IsShown selection selected.code selected.ranges.items

-- the same method, target and fields, and Range applies to them: its parts take memory
pub record HasRange (method input : List ℕ) (target : TargetFacts) (length : ℕ) : Type 0 where
  pub is_method : IsToken method
  pub current : Validators
  pub is_resource : IsResourceOf target (Ok (Current current))
  pub request : Entries FieldValue
  pub holds : Holds input request
  pub set : List ℕ
  pub applies : Applies target.present method (lines_at request) current length set

-- The answer is the selection, or the failure of reading what was handed in. `Absent` only if the target has no
-- representation, and `Memory` also if Range applies.
abbrev pub Selects : RequestTexts → TargetFacts → ℕ → Result Selected Failure → Type 0
Selects request target length (Ok selected) =
    IsSelected request.method.now request.section.now target length selected
Selects request target length (Err Absent) = target.exists ≡ false
Selects request target length (Err failure) =
    IsMethodOf request.method.now (Err failure)
    ⊎ (IsResourceOf target (Err failure)
    ⊎ (IsMapOf request.section.now (Err failure)
    ⊎ ((failure ≡ Memory) × HasRange request.method.now request.section.now target length)))

-- a call that gives a selection has an answer of which P holds
abbrev pub WritesSelection : (Result Selected Failure → Type 0) → (code new_code : ℕ) → (old new : List BytesRange)
    → (before written status : ℕ) → Type 0
WritesSelection =
    TellsAndWrites (λ (selected : Selected). selected.code) (λ (selected : Selected). selected.ranges.items)
