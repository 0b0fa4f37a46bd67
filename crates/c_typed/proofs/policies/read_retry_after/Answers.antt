use Rattle.{std.{proofs.Common.{◌≡◌, Some, sym}, specs.List.slice_get}, c_typed.proofs.RetryLemmas.retry_shows}
use Rattle.c_typed.proofs.policies.read_retry_after.Goals as goal

pub returns-in-Some-retry_time : goal.returns-in-Some-retry_time
returns-in-Some-retry_time c =
    let read = rw c.in-Some.is at c.in_ok-values.ensures.some in
    let first : slice_get c.in-Some.values.items 0 ≡ Some c.in-Some-first.line.now =
    rw c.deref.ensures.value at (sym c.in-Some-first.ensures.value) in
    retry_shows c.args.lines.now c.in-Some.values.items c.in-Some-first.line.now c.in-Some-retry_time.time
    read.0 first read.1 c.in-Some-retry_time.ensures
