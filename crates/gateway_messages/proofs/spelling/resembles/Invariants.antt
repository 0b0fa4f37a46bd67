use Rattle.{std.proofs.Common.{◌≡◌, length, bytes_eq}, gateway_messages.specs.Spellings.dashed}
use Rattle.gateway_messages.proofs.spelling.resembles.Given as goal

abbrev pub invariant-loop-name : goal.invariant-loop-name
invariant-loop-name l = bytes_eq (dashed l.initial.name) l.initial.own ≡ bytes_eq (dashed l.name) l.own

abbrev pub decreases-loop-name : goal.decreases-loop-name
decreases-loop-name l = length l.name
