use Rattle.{headers.specs.Lines.lines_of, c_resource.specs.{Lists.IsEachAt, MethodRules.{IsRuleAt, lines_by}}}
use Rattle.c_resource.proofs.method_rule.rules_by.Given as goal

abbrev pub invariant-loop-place : goal.invariant-loop-place
invariant-loop-place l = IsEachAt (IsRuleAt (lines_of l.methods) (lines_by l.lists)) l.place l.rules.items
