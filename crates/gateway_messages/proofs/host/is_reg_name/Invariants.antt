use Rattle.{std.proofs.Common.{◌≡◌, length}, gateway_messages.specs.HostTests.is_reg_name}
use Rattle.gateway_messages.proofs.host.is_reg_name.Given as goal

abbrev pub invariant-loop-rest : goal.invariant-loop-rest
invariant-loop-rest l = is_reg_name l.text ≡ is_reg_name l.rest

abbrev pub decreases-loop-rest : goal.decreases-loop-rest
decreases-loop-rest l = length l.rest
