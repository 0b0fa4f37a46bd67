use Rattle.{std.proofs.Common.{◌≡◌, length}, rfc_values.specs.Items.after_parameters}
use Rattle.rfc_values.proofs.parameters.after_parameters.Given as goal

abbrev pub invariant-loop-after : goal.invariant-loop-after
invariant-loop-after l = after_parameters l.text ≡ after_parameters l.rest

abbrev pub decreases-loop-after : goal.decreases-loop-after
decreases-loop-after l = length l.rest
