-- What is asked of a section that was parsed. An answer is that of the call without a handle, to each text that has
-- these fields.
use Rattle.std.specs.{Prelude.{◌≡◌, ◌⊎◌, ℕ, false, List, [], Option, Some, None, Result, Ok, Err}, Global.Vec}
use Rattle.http_header.specs.{FieldName.IsFieldName, FieldValue.FieldValue, HeaderMap.{Entries, get_all}}
use Rattle.{http_header.specs.Token.lowercase, headers.specs.{Lines.{Line, lines_of}, Typed.HasLine}}
use Rattle.{headers_section.specs.Section.Holds, c_parts.specs.{FieldText.IsNameOf, SectionMap.IsMapOf}}
use Rattle.c_parts.specs.declared.status.Failure.{Failure, TheVariants.{Refused, Memory, Absent, TooLarge}}
use Rattle.{c_parts.specs.Written.IsWrittenBlock, c_decisions.specs.Contents.{IsBoundaryOf, IsContentOf}}
use Rattle.c_decisions.specs.{Evaluations.IsEvaluated, Methods.IsMethodOf, Responses.IsResponded, Selection.HasRange}
use Rattle.c_decisions.specs.{Selection.IsSelected, Targets.IsResourceOf, Texts.{AreValuesOf, FailsAt}}
use Rattle.c_decisions.specs.declared.{content.ContentParts.ContentParts, response.Responded.Responded}
use Rattle.c_decisions.specs.declared.{selection.Selected.Selected, target.TargetFacts.TargetFacts}
use Rattle.c_handles.specs.declared.held.Held.{Held}
use Rattle.c_handles.specs.declared.held.Held.TheVariants as held

-- ---- what a handle is opened with

-- the fields of the text, or why there are none; `Memory` also for the handle
abbrev pub IsSectionHeld : List ℕ → Result Held Failure → Type 0
IsSectionHeld input (Ok (held.Section fields)) = Holds input fields
IsSectionHeld input (Ok other) = ⊥
IsSectionHeld input (Err failure) = IsMapOf input (Err failure) ⊎ (failure ≡ Memory)

-- ---- what is asked of it

module _ (fields : Entries FieldValue) where
  -- this holds of each text that has the fields
  abbrev pub OfEach : (List ℕ → Type 0) → Type 0
  OfEach P = (input : List ℕ) → Holds input fields → P input

  -- the field lines of a name
  abbrev pub lines_under : List ℕ → List Line
  lines_under name = lines_of (get_all fields name)

  -- the lines that are written of those of a name, as `typed_headers_field` writes them
  abbrev pub IsWrittenOf : List ℕ → Result (Vec FieldValue) Failure → Type 0
  IsWrittenOf name (Ok lines) =
      IsFieldName name × HasLine (lines_under (lowercase name))
      × IsWrittenBlock (lowercase name) (lines_under (lowercase name)) (Some (lines_of lines.items))
  IsWrittenOf name (Err Refused) =
      ¬ (IsFieldName name)
      ⊎ (HasLine (lines_under (lowercase name))
      × IsWrittenBlock (lowercase name) (lines_under (lowercase name)) None)
  IsWrittenOf name (Err Absent) = IsFieldName name × (lines_under (lowercase name) ≡ [])
  IsWrittenOf name (Err Memory) =
      IsNameOf name (Err Memory) ⊎ (IsFieldName name × HasLine (lines_under (lowercase name)))
  IsWrittenOf name (Err TooLarge) = ⊥

  module _ (method : List ℕ) (target : TargetFacts) where
    abbrev pub EvaluatesOf : Result ℕ Failure → Type 0
    EvaluatesOf (Ok code) = OfEach (λ input. IsEvaluated method input target code)
    EvaluatesOf (Err failure) = IsMethodOf method (Err failure) ⊎ IsResourceOf target (Err failure)

    abbrev pub SelectsOf : ℕ → Result Selected Failure → Type 0
    SelectsOf length (Ok selected) = OfEach (λ input. IsSelected method input target length selected)
    SelectsOf length (Err Absent) = target.exists ≡ false
    SelectsOf length (Err failure) =
        IsMethodOf method (Err failure)
        ⊎ (IsResourceOf target (Err failure)
        ⊎ ((failure ≡ Memory) × OfEach (λ input. HasRange method input target length)))

    abbrev pub RespondsOf : ContentParts → Result Responded Failure → Type 0
    RespondsOf parts (Ok shown) = OfEach (λ input. IsResponded method input target parts shown)
    RespondsOf parts (Err failure) =
        IsMethodOf method (Err failure)
        ⊎ (IsResourceOf target (Err failure)
        ⊎ (IsContentOf parts (Err failure) ⊎ IsBoundaryOf parts.boundary.now (Err failure)))

-- the choice among the offers
abbrev pub IsChoice : (List FieldValue → Option ℕ → Type 0) → List ℕ → Option ℕ → Type 0
IsChoice P offers choice = (values : List FieldValue) × AreValuesOf offers values × P values choice

-- the place of the choice, `Absent` if nothing is chosen, or the failure of reading the offers
abbrev pub FindsOf : (List FieldValue → Option ℕ → Type 0) → List ℕ → Result ℕ Failure → Type 0
FindsOf P offers (Ok place) = IsChoice P offers (Some place)
FindsOf P offers (Err Absent) = IsChoice P offers None
FindsOf P offers (Err failure) = FailsAt offers failure
