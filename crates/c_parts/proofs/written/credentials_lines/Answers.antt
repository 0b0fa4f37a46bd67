use Rattle.{std.proofs.Common.{Vec, Global, Option, option_map}, http_header.specs.FieldValue.FieldValue}
use Rattle.{headers.specs.Lines.lines_of, headers_section.specs.CanonicalText.Block}
use Rattle.c_parts.proofs.WrittenLemmas.{IfOk-bearer}
use Rattle.c_parts.proofs.written.credentials_lines.Goals as goal

pub returns-in-None : goal.returns-in-None
returns-in-None c =
    let block_of : Option (Vec FieldValue Global) → Block = option_map (λ values. lines_of values.items) in
    let none = rw c.in-None.is at c.in_ok-lines.ensures in
    IfOk-bearer block_of c.typed_lines-in-None.result (lines_of c.args.values.now) none c.typed_lines-in-None.ensures
