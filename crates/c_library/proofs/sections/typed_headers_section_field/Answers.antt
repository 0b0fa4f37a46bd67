use Rattle.{std.proofs.Common.{Option, Some, None, Ok, Err, inr, refl}, http_header.specs.FieldValue.FieldValue}
use Rattle.{http_header.specs.HeaderMap.Entries, c_parts.specs.declared.status.Failure.TheVariants.Memory}
use Rattle.c_handles.specs.{Handles.{OnHeld, section_in}, Sections.IsWrittenOf}
use Rattle.c_library.proofs.sections.typed_headers_section_field.Goals as goal

pub returns-in-Ok-clause-lines : goal.returns-in-Ok-clause-lines
returns-in-Ok-clause-lines c =
    (Err Memory, fails (section_in c.args.fields.now.held) c.in-Ok.ensures.lines, (c.status.ensures, refl, refl))
  where
    fails : (fields : Option (Entries FieldValue))
        → OnHeld (λ held. IsWrittenOf held c.args.name.now) fields (Ok c.in-Ok.lines)
        → OnHeld (λ held. IsWrittenOf held c.args.name.now) fields (Err Memory)
    fails None h = absurd (cc h)
    fails (Some held) h = inr (h.0, h.1)
