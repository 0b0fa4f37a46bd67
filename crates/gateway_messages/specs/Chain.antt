-- Gateways in a row, each of which forwards what it received from the one before.
use Rattle.std.specs.Prelude.{◌≡◌, ◌≢◌, ◌⊎◌, ℕ, true, false, List, [], ◌∷◌, ◌++◌, All, codes, ⊤}
use Rattle.{headers.specs.LineMap.LineMap, gateway_messages.specs.FieldLines.{fields_of, lines_under}}
use Rattle.gateway_messages.specs.{HopByHop.is_known, Requests.{IsForwarded, Request}, Spellings.is_misspelt}
use Rattle.gateway_messages.specs.{Via.via_line, declared.{gateway.Gateway.Gateway, protocol.Protocol.Protocol}}
use Rattle.gateway_messages.specs.{declared.request.ForwardedRequest.ForwardedRequest, Forwarding.IsEndToEnd}
use Rattle.gateway_messages.specs.Forwarding.{IsHopByHop, own_names}

-- the next request has the method and the field lines that were forwarded, under each name
pub record IsReceivedAs (forwarded : List ℕ) (sent : ForwardedRequest) (next : Request) : Type 0 where
  pub method : next.method ≡ forwarded
  pub fields : (name : List ℕ) → next.fields name ≡ lines_under (fields_of sent.fields.items) name

-- some gateway that receives the first request forwards it, and the second is what the next gateway receives
pub record IsForwardedAs (request next : Request) : Type 0 where
  pub gateway : Gateway
  pub sent : ForwardedRequest
  pub forwarded : IsForwarded gateway request sent
  pub received : IsReceivedAs request.method sent next

-- what each of several gateways forwards, one after another, from a request on
abbrev pub IsChain : Request → List Request → Type 0
IsChain request [] = ⊤
IsChain request (next ∷ rest) = IsForwardedAs request next × IsChain next rest

-- What the second of two gateways sends is what one gateway would send that adds two field lines to Via. The versions
-- are those in which each of them received the message.
pub record IsOneGateway (first second : Gateway) (earlier later : Protocol) (received forwarded : LineMap) : Type 0
  where
    pub end_to_end : (name : List ℕ) → IsEndToEnd first received name
        → is_known second.consumes_credentials name ≡ false → is_misspelt first name ≡ false
        → is_misspelt second name ≡ false → All (λ own. own ≢ name) own_names → forwarded name ≡ received name
    pub misspelt : (name : List ℕ) → (is_misspelt first name ≡ true) ⊎ (is_misspelt second name ≡ true)
        → All (λ own. own ≢ name) own_names → forwarded name ≡ []
    pub hop_by_hop : (name : List ℕ) → IsHopByHop first received name → All (λ own. own ≢ name) own_names
        → forwarded name ≡ []
    pub via : forwarded (codes "via")
        ≡ received (codes "via")
        ++ via_line earlier first.pseudonym ∷ via_line later second.pseudonym ∷ []
