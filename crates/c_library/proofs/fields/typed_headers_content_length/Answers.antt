use Rattle.{std.proofs.Common.{Ok, Err, refl}, headers.specs.ContentLength.content_length_reads}
use Rattle.{c_library.specs.Fields.reads_length, c_parts.proofs.DecodeLemmas.FieldDecodes-fails}
use Rattle.c_library.proofs.fields.typed_headers_content_length.Goals as goal

pub returns-in-Ok : goal.returns-in-Ok
returns-in-Ok c = (Ok c.in-Ok.read.0, c.in-Ok.ensures, (refl, refl))

pub returns-in-Err : goal.returns-in-Err
returns-in-Err c =
    let says = FieldDecodes-fails content_length_reads reads_length c.args.lines.now c.in-Err.failure
    (λ length read. (record { 0 = length }, read)) c.in-Err.ensures in
    (Err c.in-Err.failure, says, (c.status.ensures, refl))
