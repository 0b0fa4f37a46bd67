-- Two gateways in a row are one.
use Rattle.std.proofs.Common.{arith, ◌≡◌, ◌≢◌, ◌⊎◌, ℕ, true, false, List, [], sym, ◌∙◌, append_assoc, lit<, inl, inr}
use Rattle.std.{proofs.lemmas.{Bool.cases_Bool, Slice.Eq.bytes_eq-Decides}, specs.Prelude.{All, codes}}
use Rattle.{headers.specs.LineMap.LineMap, gateway_messages.specs.{Chain.IsOneGateway, Spellings.is_misspelt}}
use Rattle.gateway_messages.specs.{declared.gateway.Gateway.Gateway, Forwarding.{Forwards, IsEndToEnd, IsHopByHop}}
use Rattle.gateway_messages.specs.{Forwarding.{Message, own_names}, HopByHop.{connection_options, is_hop_by_hop}}
use Rattle.gateway_messages.specs.HopByHop.{is_known}

apart : codes "connection" ≢ codes "transfer-encoding"
apart e = absurd (cc ((bytes_eq-Decides (codes "connection") (codes "transfer-encoding")).1 e))

module _ (first second : Gateway) (earlier later : Message) (received sent next forwarded : LineMap)
    (p : Forwards first earlier received sent) (r : (name : List ℕ) → next name ≡ sent name)
    (q : Forwards second later next forwarded) where
  no_options : connection_options next ≡ []
  no_options = grind (arith, apart)

  other : (name : List ℕ) → All (λ own. own ≢ name) own_names → name ≢ codes "transfer-encoding"
  other name others same = others 5 [] (lit< tt) (sym same)

  both_end_to_end : (name : List ℕ) → IsEndToEnd first received name
      → is_known second.consumes_credentials name ≡ false → is_misspelt first name ≡ false
      → is_misspelt second name ≡ false → All (λ own. own ≢ name) own_names → forwarded name ≡ received name
  both_end_to_end name e k s t others = grind (arith, no_options)

  -- what the first doesn't forward, the second doesn't
  still_none : (name : List ℕ) → sent name ≡ [] → All (λ own. own ≢ name) own_names → forwarded name ≡ []
  still_none name none others =
      elim (cases_Bool (is_hop_by_hop second.consumes_credentials (connection_options next) name)) [
        | inl t ↦ q.hop_by_hop name t (other name others)
        | inr e ↦ elim (cases_Bool (is_misspelt second name)) [
          | inl t ↦ q.misspelt name t
          | inr f ↦ q.end_to_end name e f others ∙ r name ∙ none
        ]
      ]

  either_misspelt : (name : List ℕ) → (is_misspelt first name ≡ true) ⊎ (is_misspelt second name ≡ true)
      → All (λ own. own ≢ name) own_names → forwarded name ≡ []
  either_misspelt name (inl t) others = still_none name (p.misspelt name t) others
  either_misspelt name (inr t) others = q.misspelt name t

  either_hop_by_hop : (name : List ℕ) → IsHopByHop first received name → All (λ own. own ≢ name) own_names
      → forwarded name ≡ []
  either_hop_by_hop name e others = still_none name (p.hop_by_hop name e (other name others)) others

  pub one_gateway : IsOneGateway first second earlier.protocol later.protocol received forwarded
  one_gateway = grind (arith, both_end_to_end, either_misspelt, either_hop_by_hop, append_assoc)
