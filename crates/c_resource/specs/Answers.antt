-- The whole answer of a resource, by what a caller hands in.
use Rattle.std.specs.Prelude.{◌≡◌, ◌⊎◌, ℕ, List, map, option_map, Option, Result, Ok, Err}
use Rattle.http_header.specs.{FieldValue.FieldValue, HeaderMap.Entries, Token.IsToken}
use Rattle.{headers.specs.LineMap.{fields_of, lines_at}, headers_section.specs.Section.Holds}
use Rattle.decide_resource.specs.{Answers.IsAnswer, Requests.Request, declared.answer.Answer.Answer}
use Rattle.{decide_resource.specs.declared.resource.Resource.Resource, c_decisions.specs.FieldLines.fields_text}
use Rattle.c_decisions.specs.{Methods.IsMethodOf, Selection.range_of, declared.rules.Rules.Rules}
use Rattle.c_parts.specs.{SectionMap.IsMapOf, declared.status.Failure.{Failure, TheVariants.Memory}}
use Rattle.c_resource.specs.Requests.{IsAuthorityAnswer, IsDenialAnswer, IsProtocolAnswer, authority_of, content_of}
use Rattle.c_resource.specs.{Resources.{FailsAtResource, IsResource}, Settled.settled, Shown.{IsTold, parts_of}}
use Rattle.c_resource.specs.declared.{answer.Answered.Answered, representation.RepresentationParts.RepresentationParts}
use Rattle.c_resource.specs.declared.request.{DenialParts.DenialParts, RequestParts.RequestParts}
use Rattle.c_resource.specs.declared.resource.ResourceParts.{ResourceParts}

-- what is told of an answer, the parts that it sends, and the field lines of the fields that it sets
pub record IsShownAnswer (answer : Answer) (shown : Answered) : Type 0 where
  pub facts : IsTold answer shown.facts
  pub parts : shown.parts.items ≡ map range_of (parts_of answer.sends)
  pub text : shown.text.items ≡ fields_text (settled (fields_of answer.fields.items))

module _ (asked : RequestParts) (denial : DenialParts) (fields : Entries FieldValue) where
  -- the request is the one that was handed in, with these fields
  pub record IsRequest (request : Request) : Type 0 where
    pub protocol : IsProtocolAnswer asked.version (Ok request.protocol)
    pub is_method : IsToken asked.method.now
    pub method_is : request.method ≡ asked.method.now
    pub authority : Option FieldValue
    pub is_authority : IsAuthorityAnswer (authority_of asked.target.now) (Ok authority)
    pub authority_is : request.authority ≡ option_map (λ value. value.bytes) authority
    pub content : request.content ≡ content_of asked
    pub fields_are : request.fields ≡ lines_at fields
    pub denied : IsDenialAnswer denial (Ok request.denied)

  -- the answer of a resource to the request that was handed in
  pub record IsAnsweredBy (resource : Resource) (shown : Answered) : Type 0 where
    pub request : Request
    pub is_request : IsRequest request
    pub answer : Answer
    pub is_answer : IsAnswer asked.present resource request answer
    pub is_shown : IsShownAnswer answer shown

-- the failure is that of reading the request, but for its fields
abbrev pub FailsAtRequest : RequestParts → DenialParts → Failure → Type 0
FailsAtRequest asked denial failure =
    IsProtocolAnswer asked.version (Err failure)
    ⊎ (IsMethodOf asked.method.now (Err failure)
    ⊎ (IsAuthorityAnswer (authority_of asked.target.now) (Err failure) ⊎ IsDenialAnswer denial (Err failure)))

-- The answer of a resource that was read, or the failure of reading the request. `Memory` also if it can be read: the
-- answer to it has fields.
abbrev pub AnswersBy : RequestParts → DenialParts → Entries FieldValue → Resource → Result Answered Failure → Type 0
AnswersBy asked denial fields resource (Ok shown) = IsAnsweredBy asked denial fields resource shown
AnswersBy asked denial fields resource (Err failure) =
    FailsAtRequest asked denial failure
    ⊎ ((failure ≡ Memory) × (request : Request) × IsRequest asked denial fields request)

module _ (given : ResourceParts) (numbers : List RepresentationParts) (rules : Rules) (asked : RequestParts)
    (denial : DenialParts) (section : List ℕ) where
  -- the answer of the resource that was handed in to the request with the fields of the section
  pub record IsAnsweredFor (shown : Answered) : Type 0 where
    pub resource : Resource
    pub is_resource : IsResource given numbers rules resource
    pub fields : Entries FieldValue
    pub holds : Holds section fields
    pub is_answered : IsAnsweredBy asked denial fields resource shown

  -- that answer, or the failure of reading the resource or the request
  abbrev pub Answers : Result Answered Failure → Type 0
  Answers (Ok shown) = IsAnsweredFor shown
  Answers (Err failure) =
      FailsAtResource given numbers rules failure
      ⊎ (FailsAtRequest asked denial failure ⊎ IsMapOf section (Err failure))
