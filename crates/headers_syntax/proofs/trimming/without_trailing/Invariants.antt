use Rattle.std.{proofs.Common.{◌≡◌, ◌+◌, ◌≤◌, take, length}, specs.List.suffix_len}
use Rattle.headers_syntax.specs.Text.{is_blank}
use Rattle.headers_syntax.proofs.trimming.without_trailing.Given as goal

abbrev pub invariant-loop-end : goal.invariant-loop-end
invariant-loop-end l = (l.end ≤ length l.bytes)
    × (l.end + suffix_len is_blank l.bytes ≡ length l.bytes + suffix_len is_blank (take l.end l.bytes))

abbrev pub decreases-loop-end : goal.decreases-loop-end
decreases-loop-end l = l.end
