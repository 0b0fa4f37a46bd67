-- Each request has one outcome.
use Rattle.std.proofs.Common.{◌≡◌, ℕ, ◌+◌, zero, suc, true, false, Option, Some, None, sym, arith, inl, inr, codes}
use Rattle.std.{proofs.lemmas.Bool.cases_Bool, specs.Prelude.option_map}
use Rattle.gateway_messages.specs.{Expectations.has_known_expectation, Framing.RejectsFraming, Hops.HasHops}
use Rattle.gateway_messages.specs.{Via.is_loop, declared.{framing.Framing.Framing, gateway.Gateway.Gateway}}
use Rattle.gateway_messages.specs.{declared.rejection.Rejection.Rejection, HopByHop.{HasFairOptions, are_options}}
use Rattle.gateway_messages.specs.{HopByHop.{connection_options, names_protected}, Outcomes.{HasOneOutcome, HasOutcome}}
use Rattle.gateway_messages.specs.{Outcomes.IsRejected, Requests.{HasHopsLeft, IsAccepted, Rejects, Request, has_host}}
use Rattle.gateway_messages.proofs.OneLemmas.{framed_or_not, limit_or_not, limited, one_limit, unframed}

-- ---- no two

pub unaccepted : (gateway : Gateway) (request : Request) (framing : Framing) (hops : Option ℕ) (rejection : Rejection)
    → IsAccepted gateway request framing → HasHops request.method request.fields hops
    → Rejects gateway request rejection → ⊥
unaccepted gateway request framing hops Rejection.InvalidOption a h r = cc (a.options.listed, r)
unaccepted gateway request framing hops Rejection.ProtectedOption a h r = cc (a.options.unprotected, r)
unaccepted gateway request framing hops Rejection.InvalidHost a h r = cc (a.host, r)
unaccepted gateway request framing hops Rejection.InvalidHops a h r = limited request.method request.fields hops h r
unaccepted gateway request framing hops Rejection.Loop a h r = cc (a.first_time, r)
unaccepted gateway request framing hops Rejection.UnknownExpectation a h r = cc (a.expectation, r)
unaccepted gateway request framing hops Rejection.SwitchedProtocols a h r = r
unaccepted gateway request framing hops rejection a h r = grind (arith, unframed, framing, rejection)

one_more : (left : Option ℕ) → Some 0 ≡ option_map (λ hops. hops + 1) left → ⊥
one_more None e = cc e
one_more (Some n) e = let zero : 0 ≡ n + 1 = cc e in omega (arith, zero)

-- what may be forwarded no more isn't
pub final_unforwarded : (request : Request) (left : Option ℕ) → HasHops request.method request.fields (Some 0)
    → HasHopsLeft request left → ⊥
final_unforwarded request left final counted = grind (arith, one_more, one_limit, counted)

pub one_outcome : (gateway : Gateway) (request : Request) → HasOneOutcome gateway request
one_outcome gateway request = grind (arith, unaccepted, gateway, final_unforwarded)

-- ---- one of them

accept : (gateway : Gateway) (request : Request) (framing : Framing) → IsAccepted gateway request framing
    → (hops : Option ℕ) → HasHops request.method request.fields hops → HasOutcome gateway request
accept gateway request framing a None h = grind (arith)
accept gateway request framing a (Some zero) h = inr (inl (framing, record { accepted = a; hops = h }))
accept gateway request framing a (Some (suc n)) h =
    inr (inr (record { framing = framing; left = Some n; accepted = a; hops = counted }))
  where
    counted : HasHopsLeft request (Some n)
    counted = let more : suc n ≡ n + 1 = omega arith in rw (sym more) h

pub some_outcome : (gateway : Gateway) (request : Request) → HasOutcome gateway request
some_outcome gateway request = elim (cases_Bool (has_host request.protocol (request.fields (codes "host")))) [
  | inr f ↦ inl (Rejection.InvalidHost, f)
  | inl host ↦ elim (cases_Bool (is_loop gateway.pseudonym (request.fields (codes "via")))) [
    | inl t ↦ inl (Rejection.Loop, t)
    | inr first ↦ elim (cases_Bool (are_options (connection_options request.fields))) [
      | inr f ↦ inl (Rejection.InvalidOption, f)
      | inl listed ↦
          elim (cases_Bool (names_protected gateway.protected.items (connection_options request.fields))) [
            | inl t ↦ inl (Rejection.ProtectedOption, t)
            | inr unprotected ↦ elim (cases_Bool (has_known_expectation (request.fields (codes "expect")))) [
              | inr f ↦ inl (Rejection.UnknownExpectation, f)
              | inl known ↦ framed host first (record { listed = listed; unprotected = unprotected }) known
            ]
          ]
    ]
  ]
]
  where
    unframe : (rejection : Rejection) → RejectsFraming request.protocol request.fields rejection
        → IsRejected gateway request
    unframe Rejection.LengthAndCoding r = (Rejection.LengthAndCoding, r)
    unframe Rejection.InvalidLength r = (Rejection.InvalidLength, r)
    unframe Rejection.UnknownCoding r = (Rejection.UnknownCoding, r)
    unframe Rejection.LastCodingNotChunked r = (Rejection.LastCodingNotChunked, r)
    unframe Rejection.CodingInHttp10 r = (Rejection.CodingInHttp10, r)
    unframe Rejection.InvalidOption r = absurd r
    unframe Rejection.ProtectedOption r = absurd r
    unframe Rejection.InvalidHost r = absurd r
    unframe Rejection.InvalidHops r = absurd r
    unframe Rejection.Loop r = absurd r
    unframe Rejection.UnknownExpectation r = absurd r
    unframe Rejection.SwitchedProtocols r = absurd r

    framed : has_host request.protocol (request.fields (codes "host")) ≡ true
        → is_loop gateway.pseudonym (request.fields (codes "via")) ≡ false → HasFairOptions gateway request.fields
        → has_known_expectation (request.fields (codes "expect")) ≡ true → HasOutcome gateway request
    framed host first options known = elim (framed_or_not request.protocol request.fields) [
      | inl r ↦ inl (unframe r.0 r.1)
      | inr f ↦ elim (limit_or_not request.method request.fields) [
        | inl r ↦ inl (Rejection.InvalidHops, r)
        | inr h ↦ accept gateway request f.0
            (record { states = f.1; options = options; host = host; first_time = first; expectation = known }) h.0 h.1
      ]
    ]
