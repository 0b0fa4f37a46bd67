-- What a gateway forwards of a response, by what a caller hands in.
use Rattle.std.specs.Prelude.{◌≡◌, ◌⊎◌, ℕ, List, [], Result, Ok, Err}
use Rattle.{http_header.specs.{FieldValue.FieldValue, HeaderMap.Entries, Token.IsToken}, headers.specs.LineMap.lines_at}
use Rattle.{headers_section.specs.Section.Holds, gateway_messages.specs.FieldLines.{Field, fields_of}}
use Rattle.gateway_messages.specs.{Responses.{IsResponseOutcome, Response}, declared.gateway.Gateway.Gateway}
use Rattle.gateway_messages.specs.declared.{protocol.Protocol.Protocol, response.ResponseOutcome.ResponseOutcome}
use Rattle.gateway_messages.specs.declared.response.ResponseOutcome.TheVariants.{Forward, Discard, Reject}
use Rattle.{c_parts.specs.{SectionMap.IsMapOf, declared.status.Failure.Failure}, c_decisions.specs.Methods.IsMethodOf}
use Rattle.{c_decisions.specs.StatusCodes.IsStatusOf, c_gateway.specs.Contents.{content_facts, no_content}}
use Rattle.c_gateway.specs.{Contents.sent_content, Dates.IsDateOf, Gateways.IsGatewayOf, Lines.lines_text}
use Rattle.c_gateway.specs.{Protocols.IsProtocolOf, Reasons.reason_number}
use Rattle.c_gateway.specs.declared.{gateway.GatewayOptions.GatewayOptions, framing.MessageParts.MessageParts}
use Rattle.c_gateway.specs.declared.response.{ForwardedFacts.ForwardedFacts, ResponseStep.ResponseStep}

-- ---- what a caller is told

abbrev pub without_content : ℕ → ℕ → ℕ → ForwardedFacts
without_content status action reason =
    record { received = no_content; sent = no_content; status = status; action = action; reason = reason }

abbrev pub response_facts : ResponseOutcome → ForwardedFacts
response_facts (Forward sent) =
    record {
      received = content_facts sent.content;
      sent = content_facts (sent_content sent.content sent.framing);
      status = 0;
      action = 0;
      reason = 0;
    }
response_facts Discard = without_content 0 3 0
response_facts (Reject rejection) = without_content 502 2 (reason_number rejection)

-- the field lines that are sent: none but of a response that is forwarded
abbrev pub forwarded_lines : ResponseOutcome → List Field
forwarded_lines (Forward sent) = fields_of sent.fields.items
forwarded_lines Discard = []
forwarded_lines (Reject rejection) = []

pub record IsShownResponse (outcome : ResponseOutcome) (step : ResponseStep) : Type 0 where
  pub facts : step.facts ≡ response_facts outcome
  pub text : step.text.items ≡ lines_text (forwarded_lines outcome)

-- ---- what a gateway does

-- a caller is told of the gateway's outcome of a response, which came at that second
pub record IsStepAt (gateway : Gateway) (second : ℕ) (response : Response) (step : ResponseStep) : Type 0 where
  pub outcome : ResponseOutcome
  pub is_outcome : IsResponseOutcome gateway second response outcome
  pub is_shown : IsShownResponse outcome step

-- all is as it was handed in, and this is what the gateway does
pub record IsPassedResponse (given : GatewayOptions) (response : MessageParts) (client_version second : ℕ)
    (step : ResponseStep) : Type 0 where
  pub gateway : Gateway
  pub is_gateway : IsGatewayOf given (Ok gateway)
  pub is_status : IsStatusOf response.status (Ok response.status)
  pub protocol : Protocol
  pub is_protocol : IsProtocolOf response.version (Ok protocol)
  pub is_method : IsToken response.method.now
  pub client : Protocol
  pub is_client : IsProtocolOf client_version (Ok client)
  pub is_date : IsDateOf second (Ok second)
  pub fields : Entries FieldValue
  pub holds : Holds response.section.now fields
  pub outcome : ResponseOutcome
  pub is_outcome : IsResponseOutcome gateway second
      (record {
        protocol = protocol;
        status = response.status;
        fields = lines_at fields;
        method = response.method.now;
        client = client;
      }) outcome
  pub is_shown : IsShownResponse outcome step

-- why something that was handed in can't be read
abbrev pub FailsAtResponse : GatewayOptions → MessageParts → (client_version second : ℕ) → Failure → Type 0
FailsAtResponse given response client_version second failure =
    IsGatewayOf given (Err failure)
    ⊎ (IsStatusOf response.status (Err failure)
    ⊎ (IsProtocolOf response.version (Err failure)
    ⊎ (IsMethodOf response.method.now (Err failure)
    ⊎ (IsProtocolOf client_version (Err failure)
    ⊎ (IsDateOf second (Err failure) ⊎ IsMapOf response.section.now (Err failure))))))

abbrev pub PassesResponse : GatewayOptions → MessageParts → (client_version second : ℕ)
    → Result ResponseStep Failure → Type 0
PassesResponse given response client_version second (Ok step) =
    IsPassedResponse given response client_version second step
PassesResponse given response client_version second (Err failure) =
    FailsAtResponse given response client_version second failure
