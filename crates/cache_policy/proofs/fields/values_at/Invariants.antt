use Rattle.{std.proofs.Common.{◌≡◌, ◌++◌}, http_header.specs.HeaderMap.get_all}
use Rattle.cache_policy.proofs.fields.values_at.Given as goal

abbrev pub invariant-loop-value : goal.invariant-loop-value
invariant-loop-value g l = l.values.items ++ l.value-iterator ≡ get_all l.fn.map (g.K.AsHeaderName.name l.fn.name)
