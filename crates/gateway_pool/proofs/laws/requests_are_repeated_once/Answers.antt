use Rattle.std.proofs.Common.{arith, ◌∙◌, ap}
use Rattle.std.specs.Prelude.{if◌then◌else◌}
use Rattle.gateway_pool.{specs.Histories.run, specs.Pools.{start, was_repeated}}
use Rattle.std.proofs.lemmas.Bool.{not-true}
use Rattle.gateway_pool.proofs.Requests.{repeats_are}
use Rattle.gateway_pool.proofs.laws.requests_are_repeated_once.Goals as goal

pub returns-clause-once : goal.returns-clause-once
returns-clause-once c rules origins events request = grind (arith, repeats_are rules origins events request)

pub returns-clause-new : goal.returns-clause-new
returns-clause-new c rules origins events request now key number origin right =
    repeats_are rules origins events request ∙ ap (λ b. if b then 1 else 0)
    (not-true (was_repeated request (run events (start rules origins))) right.0.1)
