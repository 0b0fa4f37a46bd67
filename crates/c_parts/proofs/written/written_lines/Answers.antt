use Rattle.{std.proofs.Common.{◌<◌, arith, inr, length, rules, sym}, c_parts.proofs.WrittenLemmas.has_values}
use Rattle.c_parts.proofs.written.written_lines.Goals as goal

pub returns-in-Some-2 : goal.returns-in-Some-2
returns-in-Some-2 c =
    let values = c.in-Some.values.items in
    let read = rw c.in-Some.is at c.in_ok-values.ensures.some in
    let some : 0 < length values = search (rules, arith) in
    let block = rw c.in-Some-2.is at (c.in_ok-lines.ensures some) in
    record {
      is_name = c.in_ok-name.ensures.0;
      has_line = rw read.0 (has_values values some);
      values = read.1;
      block_is = rw (sym c.in_ok-name.ensures.1, read.0) block;
    }

pub returns : goal.returns
returns c =
    let values = c.in-Some.values.items in
    let read = rw c.in-Some.is at c.in_ok-values.ensures.some in
    let some : 0 < length values = search (rules, arith) in
    let block = rw c.in-None.is at (c.in_ok-lines.ensures some) in
    inr (
    record {
      is_name = c.in_ok-name.ensures.0;
      has_line = rw read.0 (has_values values some);
      values = read.1;
      block_is = rw (sym c.in_ok-name.ensures.1, read.0) block;
    }
    )
