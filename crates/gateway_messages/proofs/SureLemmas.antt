-- What is forwarded is certain at each name, and the next gateway delimits it as this one did.
use Rattle.std.proofs.Common.{◌≡◌, ◌≢◌, ℕ, ◌+◌, true, false, List, Option, Some, None, refl, sym, ◌∙◌, ap, subst}
use Rattle.std.proofs.{Common.{inl, inr, codes, arith}, lemmas.{Bool.cases_Bool, Slice.Eq.bytes_eq-Decides}}
use Rattle.{std.specs.Prelude.{All, bytes_eq, option_map}, headers.specs.LineMap.LineMap}
use Rattle.gateway_messages.specs.{FieldLines.{fields_of, lines_under}, HopByHop.{connection_options, is_hop_by_hop}}
use Rattle.gateway_messages.specs.{Spellings.is_misspelt, declared.{framing.Framing.Framing, gateway.Gateway.Gateway}}
use Rattle.gateway_messages.specs.{declared.request.ForwardedRequest.ForwardedRequest, Forwarding.{Forwards, Message}}
use Rattle.gateway_messages.specs.{Forwarding.own_names, Requests.{IsForwarded, Request, message_of}}
use Rattle.gateway_messages.proofs.OneLemmas.{one_framing, one_limit}

-- ---- at each name

each : (P : List ℕ → Type 0) → P (codes "via") → P (codes "host") → P (codes "date") → P (codes "max-forwards")
    → P (codes "content-length") → P (codes "transfer-encoding") → All P own_names
each P a h t b c e = grind (arith)

module _ (gateway : Gateway) (message : Message) (received f g : LineMap) (a : Forwards gateway message received f)
    (b : Forwards gateway message received g) (name : List ℕ) where
  abbrev IsSame : List ℕ → Type 0
  IsSame other = f other ≡ g other

  -- it is this name, or another
  either : (own : List ℕ) → IsSame own → (own ≢ name → IsSame name) → IsSame name
  either own same rest = elim (cases_Bool (bytes_eq own name)) [
    | inl t ↦ subst IsSame ((bytes_eq-Decides own name).0 t) same
    | inr n ↦ rest (λ e. absurd (cc (n, (bytes_eq-Decides own name).1 e)))
  ]

  same_end_to_end : is_hop_by_hop gateway.consumes_credentials (connection_options received) name ≡ false
      → is_misspelt gateway name ≡ false → IsSame name
  same_end_to_end e s = either (codes "via") (a.via ∙ sym b.via)
      (λ n1. either (codes "host") (a.host ∙ sym b.host) (λ n0. either (codes "date") (a.date ∙ sym b.date) (λ n9.
      either (codes "max-forwards") (a.max_forwards ∙ sym b.max_forwards) (λ n2.
      either (codes "content-length") (a.content_length ∙ sym b.content_length) (λ n3.
      either (codes "transfer-encoding") (a.transfer_encoding ∙ sym b.transfer_encoding) (λ n4.
      let P : List ℕ → Type 0 = λ own. own ≢ name in
      let others : All P own_names = each P n1 n0 n9 n2 n3 n4 in
      a.end_to_end name e s others ∙ sym (b.end_to_end name e s others)))))))

  same_hop_by_hop : is_hop_by_hop gateway.consumes_credentials (connection_options received) name ≡ true → IsSame name
  same_hop_by_hop e = either (codes "transfer-encoding") (a.transfer_encoding ∙ sym b.transfer_encoding) (λ n.
      let other : name ≢ codes "transfer-encoding" = λ same. n (sym same) in
      a.hop_by_hop name e other ∙ sym (b.hop_by_hop name e other))

  pub sure : f name ≡ g name
  sure = grind (arith, cases_Bool, gateway, same_hop_by_hop, same_end_to_end)

-- ---- the whole request

one_left : (m n : Option ℕ) → option_map (λ hops. hops + 1) m ≡ option_map (λ hops. hops + 1) n → m ≡ n
one_left None None e = refl
one_left None (Some n) e = absurd (cc e)
one_left (Some m) None e = absurd (cc e)
one_left (Some m) (Some n) e = let same : m + 1 ≡ n + 1 = cc e in ap (λ (k : ℕ). Some k) (omega (arith, same))

pub one_request : (gateway : Gateway) (request : Request) (a b : ForwardedRequest) → IsForwarded gateway request a
    → IsForwarded gateway request b → (a.framing ≡ b.framing) × (a.hops ≡ b.hops)
    × ((name : List ℕ) → lines_under (fields_of a.fields.items) name ≡ lines_under (fields_of b.fields.items) name)
one_request gateway request a b p q =
    let framing = one_framing request.protocol request.fields a.framing b.framing p.accepted.states q.accepted.states in
    let hops : a.hops ≡ b.hops = one_left a.hops b.hops (one_limit request.method request.fields _ _ p.hops q.hops) in
    let message : message_of request b.framing b.hops ≡ message_of request a.framing a.hops
    = ap (λ (f : Framing). message_of request f b.hops) (sym framing)
    ∙ ap (λ (h : Option ℕ). message_of request a.framing h) (sym hops) in
    let fields : Forwards gateway (message_of request a.framing a.hops) request.fields
    (lines_under (fields_of b.fields.items)) = rw message at q.fields in
    (framing, hops, sure gateway (message_of request a.framing a.hops) request.fields _ _ p.fields fields)
