use Rattle.{std.{proofs.Common.{◌≡◌, take}, specs.Prelude.flat_map}, decide_resource.specs.Applies.methods_of}
use Rattle.decide_resource.proofs.allow.methods_of.Given as goal

abbrev pub invariant-loop-rule : goal.invariant-loop-rule
invariant-loop-rule l = l.methods.items ≡ flat_map methods_of (take l.rule-index l.rules)
