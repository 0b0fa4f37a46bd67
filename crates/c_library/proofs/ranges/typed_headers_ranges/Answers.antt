use Rattle.std.{proofs.Common.{◌∙◌, List, Ok, Err, ap, refl, subst}, specs.List.filter_map}
use Rattle.{http_header.specs.FieldValue.plain_value, headers.specs.{HeaderLaws.ReadsBy, Range.range_grammar}}
use Rattle.c_parts.specs.{Endings.{IsWritten, done}, declared.status.Failure.TheVariants.Memory}
use Rattle.{c_parts.proofs.DecodeLemmas.FieldDecodes-fails, c_library.specs.Ranges.{bytes_range, reads_ranges}}
use Rattle.c_decisions.specs.declared.selection.BytesRange.{BytesRange}
use Rattle.c_library.proofs.ranges.typed_headers_ranges.Goals as goal

pub returns-in-Ok-bytes_ranges : goal.returns-in-Ok-bytes_ranges
returns-in-Ok-bytes_ranges c =
    let says = c.in-Ok.ensures in
    let ranges = c.in-Ok-bytes_ranges.ranges.items in
    let given = c.in-Ok-bytes_ranges.ensures ∙ ap (filter_map bytes_range) c.satisfiable_ranges.ensures.ranges in
    let written = subst
    (λ (items : List BytesRange). IsWritten items done c.args.room.now c.copy_into.new.room c.copy_into.new.written
    c.copy_into.result) c.as_slice.ensures.value c.copy_into.ensures in
    (Ok ranges, (says.0, (says.1.0, (c.in-Ok.range.bytes, says.1.1, given))), written)

pub returns-in-Ok : goal.returns-in-Ok
returns-in-Ok c = let says = c.in-Ok.ensures in (Err Memory, says.0, (c.status.ensures, refl, refl))

pub returns : goal.returns
returns c =
    let says = FieldDecodes-fails (ReadsBy range_grammar) (reads_ranges c.args.length) c.args.lines.now c.in-Err.failure
    (λ ranges read. (plain_value read.0, read.1)) c.in-Err.ensures in
    (Err c.in-Err.failure, says, (c.status-in-Err.ensures, refl, refl))
