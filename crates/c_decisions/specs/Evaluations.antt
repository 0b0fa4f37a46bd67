-- What the preconditions of a request come to, by what a caller hands in.
use Rattle.std.specs.Prelude.{◌≡◌, ◌⊎◌, ℕ, List, Result, Ok, Err}
use Rattle.{http_header.specs.{FieldValue.FieldValue, HeaderMap.Entries, Token.IsToken}, headers.specs.LineMap.lines_at}
use Rattle.{headers_section.specs.Section.Holds, decide_preconditions.specs.Preconditions.Answers}
use Rattle.decide_preconditions.specs.declared.precondition.Precondition.{Precondition, TheVariants.Perform}
use Rattle.decide_preconditions.specs.declared.precondition.Precondition.TheVariants.{NotModified, Failed}
use Rattle.{decide_preconditions.specs.declared.resource.TargetState.TargetState, c_parts.specs.SectionMap.IsMapOf}
use Rattle.{c_parts.specs.declared.status.Failure.Failure, c_decisions.specs.{Methods.IsMethodOf, Targets.IsResourceOf}}
use Rattle.c_decisions.specs.declared.{request.RequestTexts.RequestTexts, target.TargetFacts.TargetFacts}

abbrev pub code_of : Precondition → ℕ
code_of Perform = 0
code_of NotModified = 304
code_of Failed = 412

-- the method, the target and the fields of the section are those that were handed in, and the code is that of their
-- answer
pub record IsEvaluated (method input : List ℕ) (target : TargetFacts) (code : ℕ) : Type 0 where
  pub is_method : IsToken method
  pub resource : TargetState
  pub is_resource : IsResourceOf target (Ok resource)
  pub request : Entries FieldValue
  pub holds : Holds input request
  pub answer : Precondition
  pub answers : Answers target.present (lines_at request) resource method answer
  pub code_is : code ≡ code_of answer

-- the answer is the code, or the failure of reading what was handed in
abbrev pub Evaluates : RequestTexts → TargetFacts → Result ℕ Failure → Type 0
Evaluates request target (Ok code) = IsEvaluated request.method.now request.section.now target code
Evaluates request target (Err failure) =
    IsMethodOf request.method.now (Err failure)
    ⊎ (IsResourceOf target (Err failure) ⊎ IsMapOf request.section.now (Err failure))
