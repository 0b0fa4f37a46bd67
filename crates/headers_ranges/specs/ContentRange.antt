-- The header `content-range` (RFC 9110, section 14.4): the first field line is text with a range in bytes, or none, and
-- a length, or none.
use Rattle.headers_syntax.{specs.HeaderLaws.Grammar, specs.Lines.first_line, specs.Shapes.one_line}
use Rattle.headers_ranges.specs.ContentBytes.{ContentBytes, content_bytes, content_text}
use Rattle.headers_ranges.specs.declared.content_range.ContentRange.{ContentRange}

abbrev pub content_range_grammar : Grammar ContentRange ContentBytes
content_range_grammar = one_line (λ range. range) first_line content_bytes content_text
