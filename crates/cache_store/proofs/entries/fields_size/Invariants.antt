use Rattle.{std.proofs.Common.{◌+◌, ◌-◌, ◌^◌, ◌≡◌, ◌≤◌, min, sum_by}, http_header.specs.HeaderMap.pairs}
use Rattle.cache_store.specs.Contents.{line_size}
use Rattle.cache_store.proofs.entries.fields_size.Given as goal

abbrev pub invariant-loop-name : goal.invariant-loop-name
invariant-loop-name l = record {
  sum : min (l.size + sum_by line_size l.name-iterator) (2 ^ 64 - 1)
      ≡ min (sum_by line_size (pairs l.fields)) (2 ^ 64 - 1);
  fits : l.size ≤ 2 ^ 64 - 1;
}
