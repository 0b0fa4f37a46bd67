use Rattle.std.proofs.Common.{◌≡◌, ◌∙◌, true, Vec, Global, List, Option, option_map, IfOk, subst, sym}
use Rattle.{http_header.specs.FieldValue.FieldValue, headers.specs.Lines.lines_of}
use Rattle.{headers_section.specs.CanonicalText.Block, c_parts.specs.Written.{IsWrittenBlock, has_credentials}}
use Rattle.c_parts.proofs.WrittenLemmas.{IfOk-written}
use Rattle.c_parts.proofs.written.block_of.Goals as goal

pub returns-then-has_credentials : goal.returns-then-has_credentials
returns-then-has_credentials c long =
    let block_of : Option (Vec FieldValue Global) → Block = option_map (λ values. lines_of values.items) in
    let has : has_credentials c.args.name.now ≡ true = sym c.has_credentials.ensures ∙ c.if-has_credentials.true in
    let found = c.credentials_lines.result in
    subst (λ (values : List FieldValue). IfOk found (λ block.
    IsWrittenBlock c.args.name.now (lines_of values) (block_of block))) c.as_slice.ensures.value
    (IfOk-written block_of found c.args.name.now (lines_of c.as_slice.result.now) has c.credentials_lines.ensures)
