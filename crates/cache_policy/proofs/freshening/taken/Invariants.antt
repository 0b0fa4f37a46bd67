use Rattle.{std.proofs.Common.{◌≡◌, ◌++◌}, headers.specs.LineMap.{fields_of, lines_at}}
use Rattle.cache_policy.specs.Freshening.{freshening_fields, taken}
use Rattle.cache_policy.proofs.freshening.taken.Given as goal

abbrev pub invariant-loop-name : goal.invariant-loop-name
invariant-loop-name l =
    fields_of l.fields.items ++ taken (lines_at l.fn.update) l.name-iterator ≡ freshening_fields l.fn.update
