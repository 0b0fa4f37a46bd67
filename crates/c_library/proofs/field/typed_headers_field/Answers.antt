use Rattle.{std.proofs.Common.{Err, inr, refl}, c_parts.specs.declared.status.Failure.TheVariants.Memory}
use Rattle.c_library.proofs.field.typed_headers_field.Goals as goal

pub returns-in-Ok : goal.returns-in-Ok
returns-in-Ok c =
    let block = c.in-Ok.ensures in (Err Memory, inr (block.is_name, block.has_line), (c.status.ensures, refl, refl))
