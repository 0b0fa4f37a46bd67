-- What a client behind gateways gets of a response is what the server sent.
use Rattle.std.proofs.Common.{◌≡◌, ◌≢◌, ℕ, Bool, true, false, List, [], ◌∷◌, refl, sym, ◌∙◌, ap, arith}
use Rattle.{std.{proofs.lemmas.List.Elements.All-rest, specs.Prelude.{All, ◌||◌, codes}}, headers.specs.Lines.Line}
use Rattle.chain.{specs.Responses.{HasNoOptions, IsPassedBack, Returns}, proofs.WayLemmas.apart}
use Rattle.{rfc_fields.specs.{Members.field_members, Scan.Member}, gateway_messages.specs.Forwarding.own_names}
use Rattle.gateway_messages.specs.{Spellings.has_mark, declared.gateway.Gateway.Gateway}
use Rattle.gateway_messages.specs.{declared.response.ForwardedResponse.ForwardedResponse, HopByHop.connection_options}
use Rattle.gateway_messages.specs.{HopByHop.{is_hop_by_hop, is_known}, Responses.{IsForwardedResponse, Response}}
use Rattle.gateway_messages.proofs.SpellingLemmas.{well_spelt}

-- a response without connection options keeps the lines of each field that isn't for one connection
module _ (gateway : Gateway) (date : ℕ) (response next : Response) (sent : ForwardedResponse)
    (forwarded : IsForwardedResponse gateway date response sent) (passed : IsPassedBack response sent next)
    (none : HasNoOptions response.fields) where
  kept : (name : List ℕ) → is_known gateway.consumes_credentials name ≡ false → has_mark name ≡ false
      → All (λ own. own ≢ name) own_names → next.fields name ≡ response.fields name
  kept name other unmarked not_own =
      let options : connection_options response.fields ≡ []
      = ap (λ (lines : List Line). field_members true lines) none in
      let end_to_end : is_hop_by_hop gateway.consumes_credentials (connection_options response.fields) name ≡ false
      = ap (λ (members : List Member). is_hop_by_hop gateway.consumes_credentials members name) options
      ∙ ap (λ (b : Bool). b || false) other in
      passed.fields name ∙ forwarded.fields.end_to_end name end_to_end (well_spelt gateway name unmarked) not_own

  still_none : HasNoOptions next.fields
  still_none = passed.fields (codes "connection")
      ∙ forwarded.fields.hop_by_hop (codes "connection") refl (apart (codes "connection") refl)

module _ (name : List ℕ) (unmarked : has_mark name ≡ false) (not_own : All (λ own. own ≢ name) own_names) where
  abbrev Crosses : Gateway → Type 0
  Crosses gateway = is_known gateway.consumes_credentials name ≡ false

  pub unchanged : (gateways : List Gateway) (response last : Response) → Returns gateways response last
      → HasNoOptions response.fields → All Crosses gateways → last.fields name ≡ response.fields name
  unchanged [] response last way none others = ap (λ (r : Response). r.fields name) (sym way)
  unchanged (gateway ∷ gateways) response last way none others =
      let next : Response = way.2 in
      let here : Crosses gateway = others 0 gateway (omega arith) in
      unchanged gateways next last way.5 (still_none gateway way.0 response next way.1 way.3 way.4 none)
      (All-rest Crosses gateway gateways (gateway ∷ gateways) refl others)
      ∙ kept gateway way.0 response next way.1 way.3 way.4 none name here unmarked not_own
