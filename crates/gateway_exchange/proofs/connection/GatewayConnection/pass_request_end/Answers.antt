use Rattle.std.proofs.Common.{rules, ◌≡◌, arith, inr, refl, ap, Some, Bool, true, false, ◌||◌, not, List, [], ◌∷◌}
use Rattle.std.{proofs.{Common.length, lemmas.Result.err_from_is_err_and}, specs.Prelude.◌==◌}
use Rattle.gateway_exchange.{specs.Steps.is_empty, proofs.connection.GatewayConnection.pass_request_end.Goals.then-self}
use Rattle.gateway_exchange.proofs.connection.GatewayConnection.pass_request_end.Goals.{else-self}
use Rattle.gateway_exchange.proofs.connection.GatewayConnection.pass_request_end.Goals as goal

is_empty-length : {A : Type 0} (xs : List A) → (length xs == 0) ≡ is_empty xs
is_empty-length [] = refl
is_empty-length (x ∷ xs) = grind arith

pub returns-in_err-end_request : goal.returns-in_err-end_request
returns-in_err-end_request c =
    let r = c.from_residual in
    let p = err_from_is_err_and r.result r.ensures.1 in
    let asked : c.args.self.now.asked ≡ Some c.in-Some.asked = search rules in
    let origin : c.args.self.now.origin ≡ Some c.in-Some-origin.origin = search rules in
    rw (p.1, p.2) (inr (
      c.in-Some.asked,
      c.in-Some-origin.origin,
      c.end_request.new.origin,
      asked,
      origin,
      c.in_err-end_request.ensures,
      refl,
    ))

pub returns : goal.returns
returns c =
    let old = c.args.self.now in
    let after = c.end_request.new.origin in
    let asked : c.args.self.now.asked ≡ Some c.in-Some.asked = search rules in
    let origin : c.args.self.now.origin ≡ Some c.in-Some-origin.origin = search rules in
    let touched : c.if-self.self ≡ (old.touched || not (is_empty c.args.trailers.now)) = elim c.if-self.branch [
      | then-self w ↦ rw (w.self-is, w.if-self.true) refl
      | else-self w ↦ rw (w.self-is, w.if-self.false, w.is_empty.ensures, is_empty-length c.args.trailers.now) refl
    ] in (
      c.in-Some.asked,
      c.in-Some-origin.origin,
      after,
      asked,
      origin,
      c.in_ok-end_request.ensures,
      ap (λ (it : Bool). record old { origin = Some after; whole = true; begun = false; touched = it }) touched,
    )
