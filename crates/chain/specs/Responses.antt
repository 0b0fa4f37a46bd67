-- The way of a response back through gateways (RFC 9110, section 7.6).
use Rattle.std.specs.Prelude.{◌≡◌, ℕ, List, [], ◌∷◌, codes}
use Rattle.{headers.specs.LineMap.LineMap, gateway_messages.specs.FieldLines.{fields_of, lines_under}}
use Rattle.gateway_messages.specs.{Responses.{IsForwardedResponse, Response}, declared.gateway.Gateway.Gateway}
use Rattle.gateway_messages.specs.declared.response.ForwardedResponse.{ForwardedResponse}

-- the client of a gateway gets the response that it forwarded: with the same status, and the field lines that it sent
pub record IsPassedBack (response : Response) (sent : ForwardedResponse) (next : Response) : Type 0 where
  pub status : response.status ≡ next.status
  pub fields : (name : List ℕ) → next.fields name ≡ lines_under (fields_of sent.fields.items) name

-- each gateway of the list forwards the response, the first one that of the server, each at some date; the last one is
-- what the client gets
abbrev pub Returns : List Gateway → Response → Response → Type 0
Returns [] response last = response ≡ last
Returns (gateway ∷ gateways) response last =
    (date : ℕ) × (sent : ForwardedResponse) × (next : Response) × IsForwardedResponse gateway date response sent
    × IsPassedBack response sent next × Returns gateways next last

-- the server sends no connection option, which could name any other field
abbrev pub HasNoOptions : LineMap → Type 0
HasNoOptions fields = fields (codes "connection") ≡ []
