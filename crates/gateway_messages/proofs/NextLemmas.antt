-- The next gateway delimits the content as this one did, and a row of gateways is no longer than Max-Forwards allows.
use Rattle.std.proofs.Common.{◌≡◌, ℕ, ◌+◌, ◌≤◌, ◌<◌, ◌-◌, ◌^◌, List, [], ◌∷◌, length, Option, Some, None, refl, sym}
use Rattle.std.{proofs.Common.{◌∙◌, ap, arith, subst, codes, IsTrue}, specs.Prelude.{decimal, option_map}}
use Rattle.{headers.specs.Lines.Line, gateway_messages.specs.{Chain.{IsChain, IsForwardedAs}, Forwarding.replaced}}
use Rattle.gateway_messages.specs.{Requests.Request, Hops.{HasHops, counts_hops, hops_in}}
use Rattle.gateway_messages.proofs.NumberLemmas.{number_within-decimal, number_within-least}

most_hops : (lines : List Line) (n : ℕ) → hops_in lines ≡ Some n → n ≤ 2 ^ 64 - 1
most_hops [] n e = absurd (cc e)
most_hops (line ∷ []) n e = number_within-least (2 ^ 64 - 1) line n e
most_hops (line ∷ other ∷ lines) n e = absurd (cc e)

-- the next gateway receives one less
one_less : (hops : ℕ) (request next : Request) → IsTrue (counts_hops request.method)
    → hops_in (request.fields (codes "max-forwards")) ≡ Some hops → IsForwardedAs request next
    → (left : ℕ) × (hops ≡ left + 1) × (hops_in (next.fields (codes "max-forwards")) ≡ Some left)
one_less hops request next counts writes step = by step.sent.hops refl
  where
    by : (o : Option ℕ) → step.sent.hops ≡ o
        → (left : ℕ) × (hops ≡ left + 1) × (hops_in (next.fields (codes "max-forwards")) ≡ Some left)
    by None e = let limit : HasHops request.method request.fields None = rw e at step.forwarded.hops in
        absurd (cc (writes, ap hops_in (limit counts)))
    by (Some left) e =
        let limit : HasHops request.method request.fields (Some (left + 1)) = rw e at step.forwarded.hops in
        let one : hops ≡ left + 1 = cc (writes, limit.1) in
        let most : hops ≤ 2 ^ 64 - 1 = most_hops (request.fields (codes "max-forwards")) hops writes in
        let fits : left < 2 ^ 64 = omega (arith, most, one) in
        let sent : next.fields (codes "max-forwards") ≡ decimal left ∷ []
        = step.received.fields (codes "max-forwards") ∙ step.forwarded.fields.max_forwards
        ∙ ap (λ (o : Option ℕ). replaced (option_map decimal o) (request.fields (codes "max-forwards"))) e in
        (left, one, ap hops_in sent ∙ number_within-decimal left fits)

pub bounded : (hops : ℕ) (request : Request) (passed : List Request) → IsTrue (counts_hops request.method)
    → hops_in (request.fields (codes "max-forwards")) ≡ Some hops → IsChain request passed → length passed ≤ hops
bounded hops request [] counts writes chain = omega arith
bounded hops request (next ∷ rest) counts writes chain = let less = one_less hops request next counts writes chain.0 in
    let counts' : IsTrue (counts_hops next.method) = subst
    (λ (method : List ℕ). IsTrue (counts_hops method)) (sym chain.0.received.method) counts in
    let below : length rest ≤ less.0 = bounded less.0 next rest counts' less.2 chain.1 in
    let one : hops ≡ less.0 + 1 = less.1 in omega (arith, below, one)
