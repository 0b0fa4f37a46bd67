-- The whole response to a request for a representation, by what a caller hands in.
use Rattle.std.specs.Prelude.{◌≡◌, ◌⊎◌, ℕ, Bool, List, [], map, Option, Some, None, Result, Ok, Err}
use Rattle.http_header.specs.{FieldValue.FieldValue, HeaderMap.Entries, Token.IsToken}
use Rattle.{headers.specs.LineMap.{fields_of, lines_at}, headers_section.specs.Section.Holds}
use Rattle.decide_preconditions.specs.{Fields.{is_known_by, keeps_encoding}, Plans.parts_sent, Responses.IsAnswered}
use Rattle.decide_preconditions.specs.declared.{content.Content.Content, resource.TargetState.TargetState}
use Rattle.{decide_preconditions.specs.declared.response.Response.Response, c_parts.specs.SectionMap.IsMapOf}
use Rattle.{c_parts.specs.declared.status.Failure.Failure, c_decisions.specs.Contents.{IsBoundaryOf, IsContentOf}}
use Rattle.c_decisions.specs.{FieldLines.fields_text, Flags.flag_of, Methods.IsMethodOf, Selection.range_of}
use Rattle.c_decisions.specs.{Targets.IsResourceOf, declared.content.ContentParts.ContentParts}
use Rattle.c_decisions.specs.declared.{response.Responded.Responded, request.RequestTexts.RequestTexts}
use Rattle.c_decisions.specs.declared.target.TargetFacts.{TargetFacts}

-- the status of a response, its parts, and the field lines of its fields
pub record IsShownResponse (is_known : Bool) (response : Response) (shown : Responded) : Type 0 where
  pub status : shown.facts.status ≡ response.status
  pub encoding : shown.facts.keeps_encoding ≡ flag_of (keeps_encoding response.plan is_known)
  pub parts : shown.parts.items ≡ map range_of (parts_sent response.plan)
  pub text : shown.text.items ≡ fields_text (fields_of response.fields.items)

-- the server performs the method, and answers by itself
pub record IsLeft (shown : Responded) : Type 0 where
  pub status : shown.facts.status ≡ 0
  pub encoding : shown.facts.keeps_encoding ≡ 1
  pub parts : shown.parts.items ≡ []
  pub text : shown.text.items ≡ []

abbrev pub IsShownAnswer : Bool → Option Response → Responded → Type 0
IsShownAnswer is_known None shown = IsLeft shown
IsShownAnswer is_known (Some response) shown = IsShownResponse is_known response shown

-- all is as it was handed in, and this is the answer
pub record IsResponded (method input : List ℕ) (target : TargetFacts) (parts : ContentParts) (shown : Responded)
    : Type 0 where
  pub is_method : IsToken method
  pub resource : TargetState
  pub is_resource : IsResourceOf target (Ok resource)
  pub content : Content
  pub is_content : IsContentOf parts (Ok content)
  pub multipart : FieldValue
  pub is_multipart : IsBoundaryOf parts.boundary.now (Ok multipart)
  pub request : Entries FieldValue
  pub holds : Holds input request
  pub answer : Option Response
  pub answers : IsAnswered target.present method (lines_at request) resource content multipart answer
  pub is_shown : IsShownAnswer (is_known_by (lines_at request)) answer shown

-- the answer is the response, or the failure of reading what was handed in
abbrev pub Responds : RequestTexts → TargetFacts → ContentParts → Result Responded Failure → Type 0
Responds request target parts (Ok shown) = IsResponded request.method.now request.section.now target parts shown
Responds request target parts (Err failure) =
    IsMethodOf request.method.now (Err failure)
    ⊎ (IsResourceOf target (Err failure)
    ⊎ (IsContentOf parts (Err failure)
    ⊎ (IsBoundaryOf parts.boundary.now (Err failure) ⊎ IsMapOf request.section.now (Err failure))))
