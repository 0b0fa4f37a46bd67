use Rattle.std.proofs.Common.{◌≤◌, ap, arith, length}
use Rattle.c_parts.{specs.FieldText.field_lines, proofs.DecodeLemmas.several_lines}
use Rattle.c_library.proofs.handshake.read_accept.Goals as goal

pub returns : goal.returns
returns c =
    let values = c.in-Some.values.items in
    let same = rw c.in-Some.is at c.in_ok-values.ensures.some in
    let long = ap length c.as_slice.ensures.value in
    let two : 2 ≤ length values = omega (arith, long, c.in_default-as_slice.len_at_least) in
    let several = several_lines (field_lines c.args.lines.now) values same.0 two in
    (several.0, λ accept read. several.1 read.1.0 read.1.1)
