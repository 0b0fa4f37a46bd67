use Rattle.{std.proofs.Common.{◌≡◌, drop}, headers_map.specs.LineMap.lines_at, cache_fields.specs.Targets.told}
use Rattle.cache_fields.proofs.targets.told.Given as goal

abbrev pub invariant-loop-name : goal.invariant-loop-name
invariant-loop-name l = told l.targets (lines_at l.response) ≡ told (drop l.name-index l.targets) (lines_at l.response)
