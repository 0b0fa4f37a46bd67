-- What is true after every history of calls on a tunnel.
use Rattle.std.proofs.Common.{◌≡◌, ℕ, List, ◌++◌, take, drop, sym, ap, ◌∙◌, append_assoc, append-nil}
use Rattle.{std.proofs.lemmas.List.take-append-drop, gateway_exchange.specs.Tunnels.{Conveyed, IsReached, Past, Begun}}
use Rattle.gateway_exchange.specs.Tunnels.{FromClient, FromOrigin, ToClient, ToOrigin, ClientEnded, OriginEnded}
use Rattle.gateway_exchange.specs.declared.tunnel.Tunnel.{Tunnel}

-- bytes that come go behind those that wait
comes : (sent waits bytes now first came : List ℕ) → now ≡ waits ++ bytes → sent ++ waits ≡ first ++ came
    → sent ++ now ≡ first ++ (came ++ bytes)
comes sent waits bytes now first came is held = ap (λ (t : List ℕ). sent ++ t) is
    ∙ sym (append_assoc sent waits bytes) ∙ ap (λ (t : List ℕ). t ++ bytes) held ∙ append_assoc first came bytes

-- bytes that go were the first of those that waited
goes : (count : ℕ) (sent waits now total : List ℕ) → now ≡ drop count waits → sent ++ waits ≡ total
    → (sent ++ take count waits) ++ now ≡ total
goes count sent waits now total is held = ap (λ (t : List ℕ). (sent ++ take count waits) ++ t) is ∙ append_assoc sent
    (take count waits) (drop count waits) ∙ ap (λ (t : List ℕ). sent ++ t) (take-append-drop count waits) ∙ held

pub conveyed : {first t : Tunnel} {p : Past} → IsReached first t p → Conveyed first t p
conveyed {first} Begun = record {
  to_client = sym (append-nil first.to_client.items);
  to_origin = sym (append-nil first.to_origin.items);
}
conveyed {first} (FromClient old new p bytes before r) =
    let h = conveyed before in
    record {
      to_client = ap (λ (t : Tunnel). p.client_sent ++ t.to_client.items) r.rest ∙ h.to_client;
      to_origin = comes p.origin_sent old.to_origin.items bytes new.to_origin.items first.to_origin.items
          p.from_client r.to_origin h.to_origin;
    }
conveyed {first} (FromOrigin old new p bytes before r) =
    let h = conveyed before in
    record {
      to_client = comes p.client_sent old.to_client.items bytes new.to_client.items first.to_client.items
          p.from_origin r.to_client h.to_client;
      to_origin = ap (λ (t : Tunnel). p.origin_sent ++ t.to_origin.items) r.rest ∙ h.to_origin;
    }
conveyed {first} (ToClient old new p count before within w) =
    let h = conveyed before in
    record {
      to_client = goes count p.client_sent old.to_client.items new.to_client.items _ w.to_client h.to_client;
      to_origin = ap (λ (t : Tunnel). p.origin_sent ++ t.to_origin.items) w.rest ∙ h.to_origin;
    }
conveyed {first} (ToOrigin old new p count before within w) =
    let h = conveyed before in
    record {
      to_client = ap (λ (t : Tunnel). p.client_sent ++ t.to_client.items) w.rest ∙ h.to_client;
      to_origin = goes count p.origin_sent old.to_origin.items new.to_origin.items _ w.to_origin h.to_origin;
    }
conveyed {first} (ClientEnded old new p before is) =
    let h = conveyed before in
    record {
      to_client = ap (λ (t : Tunnel). p.client_sent ++ t.to_client.items) is ∙ h.to_client;
      to_origin = ap (λ (t : Tunnel). p.origin_sent ++ t.to_origin.items) is ∙ h.to_origin;
    }
conveyed {first} (OriginEnded old new p before is) =
    let h = conveyed before in
    record {
      to_client = ap (λ (t : Tunnel). p.client_sent ++ t.to_client.items) is ∙ h.to_client;
      to_origin = ap (λ (t : Tunnel). p.origin_sent ++ t.to_origin.items) is ∙ h.to_origin;
    }
