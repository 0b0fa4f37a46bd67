-- Each message has an outcome, and the outcomes exclude each other.
use Rattle.std.specs.Prelude.{◌⊎◌}
use Rattle.gateway_messages.specs.Requests.{IsForGateway, IsForwardable, Rejects, Request}
use Rattle.gateway_messages.specs.Responses.{IsDiscarded, IsForwardableResponse, RejectsResponse, Response}
use Rattle.gateway_messages.specs.declared.{framing.Framing.Framing, gateway.Gateway.Gateway}
use Rattle.gateway_messages.specs.declared.rejection.Rejection.{Rejection}

-- there is a reason to reject the request
abbrev pub IsRejected : Gateway → Request → Type 0
IsRejected gateway request = (rejection : Rejection) × Rejects gateway request rejection

-- the gateway is the final recipient of the request
abbrev pub IsFinal : Gateway → Request → Type 0
IsFinal gateway request = (framing : Framing) × IsForGateway gateway request framing

-- the request is rejected, or answered by the gateway, or may be forwarded
abbrev pub HasOutcome : Gateway → Request → Type 0
HasOutcome gateway request = IsRejected gateway request ⊎ (IsFinal gateway request ⊎ IsForwardable gateway request)

-- and no two of these
pub record HasOneOutcome (gateway : Gateway) (request : Request) : Type 0 where
  pub not_final : IsRejected gateway request → IsFinal gateway request → ⊥
  pub not_forwarded : IsRejected gateway request → IsForwardable gateway request → ⊥
  pub not_both : IsFinal gateway request → IsForwardable gateway request → ⊥

-- ---- responses

-- there is a reason to reject the response
abbrev pub IsRejectedResponse : Gateway → Response → Type 0
IsRejectedResponse gateway response = (rejection : Rejection) × RejectsResponse gateway response rejection

-- the response is rejected, or dropped, or may be forwarded
abbrev pub HasResponseOutcome : Gateway → Response → Type 0
HasResponseOutcome gateway response =
    IsRejectedResponse gateway response ⊎ (IsDiscarded gateway response ⊎ IsForwardableResponse gateway response)

-- and no two of these
pub record HasOneResponseOutcome (gateway : Gateway) (response : Response) : Type 0 where
  pub not_dropped : IsRejectedResponse gateway response → IsDiscarded gateway response → ⊥
  pub not_forwarded : IsRejectedResponse gateway response → IsForwardableResponse gateway response → ⊥
  pub not_both : IsDiscarded gateway response → IsForwardableResponse gateway response → ⊥
