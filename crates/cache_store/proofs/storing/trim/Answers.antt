use Rattle.std.proofs.{Common.{◌+◌, ap, arith, length}, lemmas.List.Sums.sum_by-remove}
use Rattle.cache_store.{specs.{Changes.FitsAlone, Contents.{bytes_at, size_at}}, proofs.StoringLemmas.trim-next}
use Rattle.cache_store.proofs.StoringLemmas.{trim-some}
use Rattle.cache_store.proofs.storing.trim.Goals as goal

pub loop-limits-preserved : goal.loop-limits-preserved
loop-limits-preserved c =
    let mid = c.loop-limits.responses.items in
    let target = c.args.target.now in
    let cramped : ¬ (FitsAlone c.args.limits (length mid + 1) (bytes_at target mid + c.args.size)) =
    rw (c.loop-limits.invariant.bytes, c.len.ensures, c.loop-limits.responses.ok.0) at c.loop-limits-test.ensures in
    let first = sum_by-remove (size_at target) mid 0 c.remove-oldest.result
    (trim-some c.args.limits target c.args.size c.requires.alone mid cramped) in
    let gone = ap (size_at target) c.remove-oldest.ensures.value in
    record {
      trimming = trim-next c.args.limits target c.args.size c.args.responses.now.items mid
          c.remove-oldest.new.self.items c.loop-limits.invariant.trimming cramped c.remove-oldest.ensures.items;
      bytes = rw c.remove-oldest.ensures.items
          (omega (arith, c.loop-limits.invariant.bytes, first, c.size_at-bytes.ensures, gone));
    }

pub overflow_sub-bytes : goal.overflow_sub-bytes
overflow_sub-bytes c = let mid = c.loop-limits.responses.items in
    let target = c.args.target.now in
    let cramped : ¬ (FitsAlone c.args.limits (length mid + 1) (bytes_at target mid + c.args.size))
    = rw (c.loop-limits.invariant.bytes, c.len.ensures, c.loop-limits.responses.ok.0) at c.loop-limits-test.ensures in
    let first = sum_by-remove (size_at target) mid 0 c.remove-oldest.result
    (trim-some c.args.limits target c.args.size c.requires.alone mid cramped) in
    let value = ap (size_at target) c.remove-oldest.ensures.value in
    omega (arith, c.loop-limits.invariant.bytes, c.size_at-bytes.ensures)
