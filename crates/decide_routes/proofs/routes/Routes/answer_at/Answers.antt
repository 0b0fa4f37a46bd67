use Rattle.std.proofs.Common.{refl, sym}
use Rattle.decide_routes.proofs.routes.Routes.answer_at.Goals as goal

pub returns-in_ok-answer_request-in-Ok : goal.returns-in_ok-answer_request-in-Ok
returns-in_ok-answer_request-in-Ok g c = rw (sym c.if-is_asterisk.ensures, c.in-Ok.ensures.found) (
  c.in_ok-resource-in-Ok.resource,
  (
    _,
    _,
    refl,
    record { pattern = refl; text = refl; names = refl; of = c.in-Ok.ensures.path },
    c.in_ok-resource-in-Ok.ensures,
  ),
  c.in_ok-answer_request-in-Ok.ensures,
)
