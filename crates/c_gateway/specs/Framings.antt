-- How the content of a message is delimited (RFC 9112, section 6.3), by what a caller hands in.
use Rattle.std.specs.Prelude.{◌≡◌, ◌≢◌, ◌⊎◌, ℕ, Bool, List, Option, Some, None, Result, Ok, Err, is_some, if◌then◌else◌}
use Rattle.{http_header.specs.{FieldValue.FieldValue, HeaderMap.Entries, Token.IsToken}, headers.specs.LineMap.LineMap}
use Rattle.{headers.specs.LineMap.lines_at, headers_section.specs.Section.Holds}
use Rattle.gateway_messages.specs.{Framing.{RejectsFraming, States}, Rejections.status_of, Responses.DelimitsContent}
use Rattle.gateway_messages.specs.{Responses.RejectsContent, declared.framing.Framing.Framing}
use Rattle.gateway_messages.specs.declared.{protocol.Protocol.Protocol, rejection.Rejection.Rejection}
use Rattle.{gateway_messages.specs.declared.response.ContentFraming.ContentFraming, c_parts.specs.SectionMap.IsMapOf}
use Rattle.{c_parts.specs.declared.status.Failure.Failure, c_decisions.specs.Methods.IsMethodOf}
use Rattle.{c_decisions.specs.StatusCodes.IsStatusOf, c_gateway.specs.Contents.{content_facts, no_content}}
use Rattle.c_gateway.specs.{Contents.request_content, Protocols.IsProtocolOf, Reasons.reason_number}
use Rattle.c_gateway.specs.declared.framing.{FramingFacts.FramingFacts, MessageParts.MessageParts}

-- the status code of a response; 0 says that the message is a request
abbrev pub IsCodeOf : ℕ → Result (Option ℕ) Failure → Type 0
IsCodeOf number (Ok None) = number ≡ 0
IsCodeOf number (Ok (Some code)) = (number ≢ 0) × IsStatusOf number (Ok code)
IsCodeOf number (Err failure) = (number ≢ 0) × IsStatusOf number (Err failure)

-- a request's content is what its fields state, or there is none
pub record IsRequestContent (protocol : Protocol) (fields : LineMap) (content : ContentFraming) : Type 0 where
  pub stated : Framing
  pub states : States protocol fields stated
  pub content_is : content ≡ request_content stated

-- how the content of a message is delimited, by the method of the request, and the status if it is a response
abbrev pub Delimits : Protocol → List ℕ → Option ℕ → LineMap → ContentFraming → Type 0
Delimits protocol method None fields content = IsRequestContent protocol fields content
Delimits protocol method (Some status) fields content = DelimitsContent protocol method status fields content

-- why the fields are rejected
abbrev pub RejectsMessage : Protocol → List ℕ → Option ℕ → LineMap → Rejection → Type 0
RejectsMessage protocol method None fields rejection = RejectsFraming protocol fields rejection
RejectsMessage protocol method (Some status) fields rejection = RejectsContent protocol method status fields rejection

abbrev pub IsDelimited : Protocol → List ℕ → Option ℕ → LineMap → Result ContentFraming Rejection → Type 0
IsDelimited protocol method code fields (Ok content) = Delimits protocol method code fields content
IsDelimited protocol method code fields (Err rejection) = RejectsMessage protocol method code fields rejection

-- the status that answers a rejected request, or takes the place of a rejected response
abbrev pub rejection_status : Bool → Rejection → ℕ
rejection_status is_response rejection = if is_response then 502 else status_of rejection

abbrev pub framing_facts : Bool → Result ContentFraming Rejection → FramingFacts
framing_facts is_response (Ok content) = record { content = content_facts content; status = 0; reason = 0 }
framing_facts is_response (Err rejection) =
    record { content = no_content; status = rejection_status is_response rejection; reason = reason_number rejection }

-- all is as it was handed in, and the content is delimited so
pub record IsFramed (message : MessageParts) (facts : FramingFacts) : Type 0 where
  pub is_method : IsToken message.method.now
  pub code : Option ℕ
  pub is_code : IsCodeOf message.status (Ok code)
  pub protocol : Protocol
  pub is_protocol : IsProtocolOf message.version (Ok protocol)
  pub fields : Entries FieldValue
  pub holds : Holds message.section.now fields
  pub delimited : Result ContentFraming Rejection
  pub is_delimited : IsDelimited protocol message.method.now code (lines_at fields) delimited
  pub facts_are : facts ≡ framing_facts (is_some code) delimited

-- the answer is how the content is delimited, or the failure of reading what was handed in
abbrev pub Frames : MessageParts → Result FramingFacts Failure → Type 0
Frames message (Ok facts) = IsFramed message facts
Frames message (Err failure) =
    IsMethodOf message.method.now (Err failure)
    ⊎ (IsCodeOf message.status (Err failure)
    ⊎ (IsProtocolOf message.version (Err failure) ⊎ IsMapOf message.section.now (Err failure)))
