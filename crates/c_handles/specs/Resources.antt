-- A resource that was read, and what it answers.
use Rattle.std.specs.Prelude.{◌≡◌, ◌⊎◌, List, Option, Some, None, Result, Ok, Err}
use Rattle.http_header.specs.{FieldValue.FieldValue, HeaderMap.Entries}
use Rattle.{decide_resource.specs.declared.resource.Resource.Resource, c_parts.specs.declared.status.Failure.Failure}
use Rattle.c_parts.specs.declared.status.Failure.TheVariants.{Memory, Absent}
use Rattle.{c_decisions.specs.declared.rules.Rules.Rules, c_resource.specs.Answers.AnswersBy}
use Rattle.c_resource.specs.{Resources.IsResourceAnswer, declared.answer.Answered.Answered}
use Rattle.c_resource.specs.declared.representation.RepresentationParts.{RepresentationParts}
use Rattle.c_resource.specs.declared.request.{DenialParts.DenialParts, RequestParts.RequestParts}
use Rattle.{c_resource.specs.declared.resource.ResourceParts.ResourceParts, c_handles.specs.declared.held.Held.Held}
use Rattle.c_handles.specs.declared.held.Held.TheVariants as held

-- the resource that was handed in, or why there is none; `Memory` also for the handle
abbrev pub IsResourceHeld : ResourceParts → List RepresentationParts → Rules → Result Held Failure → Type 0
IsResourceHeld given numbers rules (Ok (held.Resource resource)) = IsResourceAnswer given numbers rules (Ok resource)
IsResourceHeld given numbers rules (Ok other) = ⊥
IsResourceHeld given numbers rules (Err failure) =
    IsResourceAnswer given numbers rules (Err failure) ⊎ (failure ≡ Memory)

-- the resource's answer to a request with these fields, of two handles: `Absent` if one has none
abbrev pub AnswersBetween : RequestParts → DenialParts → Option Resource → Option (Entries FieldValue)
    → Result Answered Failure → Type 0
AnswersBetween asked denial None fields answer = answer ≡ Err Absent
AnswersBetween asked denial (Some resource) None answer = answer ≡ Err Absent
AnswersBetween asked denial (Some resource) (Some fields) answer = AnswersBy asked denial fields resource answer
