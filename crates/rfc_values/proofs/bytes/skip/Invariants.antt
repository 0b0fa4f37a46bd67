use Rattle.{std.proofs.Common.{◌≡◌, ◌≤◌, length}, rfc_values.specs.Bytes.after_run}
use Rattle.rfc_values.proofs.bytes.skip.Given as goal

abbrev pub invariant-loop-rest : goal.invariant-loop-rest
invariant-loop-rest l = record {
  same : after_run l.class l.rest ≡ after_run l.class l.text;
  shorter : length l.rest ≤ length l.text;
}

abbrev pub decreases-loop-rest : goal.decreases-loop-rest
decreases-loop-rest l = length l.rest
