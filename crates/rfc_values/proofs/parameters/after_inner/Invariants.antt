use Rattle.{std.proofs.Common.{◌≡◌, length}, rfc_values.specs.Items.after_inner}
use Rattle.rfc_values.proofs.parameters.after_inner.Given as goal

abbrev pub invariant-loop-after : goal.invariant-loop-after
invariant-loop-after l = after_inner l.text ≡ after_inner l.rest

abbrev pub decreases-loop-after : goal.decreases-loop-after
decreases-loop-after l = length l.rest
