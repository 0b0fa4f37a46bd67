use Rattle.{std.proofs.Common.{◌≡◌, ◌≤◌, length, false}, rfc_values.specs.Items.after_string}
use Rattle.rfc_values.proofs.items.after_string.Given as goal

abbrev pub invariant-loop-rest : goal.invariant-loop-rest
invariant-loop-rest l = record {
  same : after_string l.is_escaped l.rest ≡ after_string false l.text;
  shorter : length l.rest ≤ length l.text;
}

abbrev pub decreases-loop-rest : goal.decreases-loop-rest
decreases-loop-rest l = length l.rest
