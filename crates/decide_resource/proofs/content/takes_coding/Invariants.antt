use Rattle.{std.{proofs.Common.{◌≡◌, codes}, specs.List.list_all}, headers.specs.{LineMap.lines_at, Lines.lines_of}}
use Rattle.decide_resource.specs.Applies.{takes_coding, takes_codings}
use Rattle.decide_resource.proofs.content.takes_coding.Given as goal

abbrev pub invariant-loop-line : goal.invariant-loop-line
invariant-loop-line l =
    list_all (takes_codings (lines_at l.rule.takes (codes "accept-encoding"))) (lines_of l.line-iterator)
    ≡ takes_coding l.rule (lines_at l.fields)
