-- The block that a choice of what is printed gives.
use Rattle.std.specs.Prelude.{List, Some, None}
use Rattle.headers.specs.Lines.{Line, lines_of}
use Rattle.headers_section.specs.{CanonicalText.Block, declared.block.Printed.Printed}
use Rattle.headers_section.specs.declared.block.Printed.TheVariants.{Encoded, Rejected, Kept}

-- the block of a name that has these lines
abbrev pub block_printed : List Line → Printed → Block
block_printed lines (Encoded values) = Some (lines_of values.items)
block_printed lines Rejected = None
block_printed lines Kept = Some lines
