use Rattle.std.proofs.{Common.{◌≡◌, true}, lemmas.Bool.false_from_ne_true}
use Rattle.{decide_preconditions.specs.Boundaries.is_boundary, c_decisions.proofs.BoundaryLemmas.IsUtf8-boundary}
use Rattle.c_decisions.proofs.content.boundary_of.Goals as goal

pub returns-in_default : goal.returns-in_default
returns-in_default c =
    let text = c.args.text.now in
    false_from_ne_true (is_boundary text)
    (λ (is : is_boundary text ≡ true). c.in_default.ensures.cases.0 (IsUtf8-boundary text is))
