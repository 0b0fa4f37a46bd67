use Rattle.{headers_syntax.specs.Text.is_blank, std.{proofs.Common.{drop, ◌+◌, ◌≡◌}, specs.List.prefix_len}}
use Rattle.headers_syntax.proofs.trimming.leading.Given as goal

abbrev pub invariant-loop-i : goal.invariant-loop-i
invariant-loop-i l = prefix_len is_blank l.bytes ≡ l.i + prefix_len is_blank (drop l.i l.bytes)
