use Rattle.updates.{proofs.Steps.holds, proofs.Updates.{leads, swaps}}
use Rattle.updates.proofs.laws.guarded_updates_are_linearizable.Goals as goal

pub returns : goal.returns
returns c first events unique guarded =
    let all = holds first events in
    leads first _ _ all.linked (λ change has. swaps all change has unique (guarded change has))
