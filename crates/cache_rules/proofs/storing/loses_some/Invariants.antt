use Rattle.{std.{proofs.Common.{◌≡◌, drop}, specs.List.list_any}, headers.specs.LineMap.lines_at}
use Rattle.cache_rules.specs.Storing.{is_lost}
use Rattle.cache_rules.proofs.storing.loses_some.Given as goal

abbrev pub invariant-loop-name : goal.invariant-loop-name
invariant-loop-name l = list_any (is_lost (lines_at l.message)) l.names
    ≡ list_any (is_lost (lines_at l.message)) (drop l.name-index l.names)
