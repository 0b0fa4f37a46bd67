-- What a gateway sends of a request on its next connection, by what a caller hands in.
use Rattle.std.specs.Prelude.{◌≡◌, ◌⊎◌, ℕ, Bool, true, false, List, [], Option, option_map, Result, Ok, Err}
use Rattle.{http_header.specs.{FieldValue.FieldValue, HeaderMap.Entries, Token.IsToken}, headers.specs.LineMap.lines_at}
use Rattle.{headers_section.specs.Section.Holds, gateway_messages.specs.FieldLines.{Field, fields_of}}
use Rattle.gateway_messages.specs.{Rejections.status_of, Requests.Request, declared.expectation.Expectation.Expectation}
use Rattle.gateway_messages.specs.declared.expectation.Expectation.TheVariants as expectation
use Rattle.gateway_messages.specs.declared.{gateway.Gateway.Gateway, protocol.Protocol.Protocol}
use Rattle.gateway_hops.specs.{Sent.IsHopOutcome, declared.request.HopOutcome.{HopOutcome, TheVariants.Send}}
use Rattle.gateway_hops.specs.declared.request.HopOutcome.TheVariants.{RequireLength, Respond, Reject}
use Rattle.{c_parts.specs.{SectionMap.IsMapOf, declared.status.Failure.Failure}, c_decisions.specs.Flags.flag_of}
use Rattle.c_decisions.specs.{Methods.IsMethodOf, Texts.IsOptionalValue, declared.request.RequestTexts.RequestTexts}
use Rattle.c_gateway.specs.{Contents.{content_facts, no_content, request_content}, Gateways.IsGatewayOf}
use Rattle.c_gateway.specs.{Hops.{AreNodesOf, hop_of}, Lines.lines_text, Protocols.IsProtocolOf}
use Rattle.c_gateway.specs.{Reasons.{length_required, reason_number}, declared.gateway.GatewayOptions.GatewayOptions}
use Rattle.c_gateway.specs.declared.{hop.{HopOptions.HopOptions, Nodes.Nodes}, request.RequestFacts.RequestFacts}
use Rattle.c_gateway.specs.declared.request.RequestStep.{RequestStep}

-- ---- what a caller is told

-- the gateway itself sends the 100 (Continue)
abbrev pub is_answered : Expectation → Bool
is_answered expectation.Absent = false
is_answered expectation.Forwarded = false
is_answered expectation.Answered = true

abbrev pub rejected : ℕ → ℕ → RequestFacts
rejected status reason =
    record { content = no_content; status = status; action = 2; reason = reason; sends_continue = 0 }

abbrev pub request_facts : HopOutcome → RequestFacts
request_facts (Send sent) =
    record {
      content = content_facts (request_content sent.framing);
      status = 0;
      action = 0;
      reason = 0;
      sends_continue = flag_of (is_answered sent.expectation);
    }
request_facts RequireLength = rejected 411 length_required
request_facts (Respond framing) =
    record {
      content = content_facts (request_content framing);
      status = 0;
      action = 1;
      reason = 0;
      sends_continue = 0;
    }
request_facts (Reject rejection) = rejected (status_of rejection) (reason_number rejection)

-- the field lines that are sent: none but of a request that is forwarded
abbrev pub sent_lines : HopOutcome → List Field
sent_lines (Send sent) = fields_of sent.fields.items
sent_lines RequireLength = []
sent_lines (Respond framing) = []
sent_lines (Reject rejection) = []

pub record IsShownRequest (outcome : HopOutcome) (step : RequestStep) : Type 0 where
  pub facts : step.facts ≡ request_facts outcome
  pub text : step.text.items ≡ lines_text (sent_lines outcome)

-- ---- what a gateway does

-- the gateway's outcome of a request, which arrived so
abbrev pub IsOutcomeAt : Gateway → HopOptions → Nodes → Protocol → Request → HopOutcome → Type 0
IsOutcomeAt gateway options nodes server request outcome =
    IsHopOutcome gateway (hop_of options nodes server request.authority request.fields) request outcome

-- a caller is told of the gateway's outcome of a request, which arrived so
pub record IsStepAt (gateway : Gateway) (options : HopOptions) (nodes : Nodes) (server : Protocol) (request : Request)
    (step : RequestStep) : Type 0 where
  pub outcome : HopOutcome
  pub is_outcome : IsOutcomeAt gateway options nodes server request outcome
  pub is_shown : IsShownRequest outcome step

-- all is as it was handed in, and this is what the gateway does
pub record IsPassedRequest (given : GatewayOptions) (options : HopOptions) (request : RequestTexts) (version : ℕ)
    (authority : List ℕ) (step : RequestStep) : Type 0 where
  pub gateway : Gateway
  pub is_gateway : IsGatewayOf given (Ok gateway)
  pub nodes : Nodes
  pub are_nodes : AreNodesOf options (Ok nodes)
  pub server : Protocol
  pub is_server : IsProtocolOf options.server_version (Ok server)
  pub protocol : Protocol
  pub is_protocol : IsProtocolOf version (Ok protocol)
  pub is_method : IsToken request.method.now
  pub target : Option FieldValue
  pub is_target : IsOptionalValue authority (Ok target)
  pub fields : Entries FieldValue
  pub holds : Holds request.section.now fields
  pub outcome : HopOutcome
  pub is_outcome : IsOutcomeAt gateway options nodes server
      (record {
        protocol = protocol;
        method = request.method.now;
        authority = option_map (λ value. value.bytes) target;
        fields = lines_at fields;
      }) outcome
  pub is_shown : IsShownRequest outcome step

-- why something that was handed in can't be read
abbrev pub FailsAtRequest : GatewayOptions → HopOptions → RequestTexts → ℕ → (authority : List ℕ) → Failure → Type 0
FailsAtRequest given options request version authority failure =
    IsGatewayOf given (Err failure)
    ⊎ (AreNodesOf options (Err failure)
    ⊎ (IsProtocolOf options.server_version (Err failure)
    ⊎ (IsProtocolOf version (Err failure)
    ⊎ (IsMethodOf request.method.now (Err failure)
    ⊎ (IsOptionalValue authority (Err failure) ⊎ IsMapOf request.section.now (Err failure))))))

abbrev pub PassesRequest : GatewayOptions → HopOptions → RequestTexts → ℕ → (authority : List ℕ)
    → Result RequestStep Failure → Type 0
PassesRequest given options request version authority (Ok step) =
    IsPassedRequest given options request version authority step
PassesRequest given options request version authority (Err failure) =
    FailsAtRequest given options request version authority failure
