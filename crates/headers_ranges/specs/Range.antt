-- The header `range` (RFC 9110, section 14.2): the first field line is text that begins with `bytes=`.
use Rattle.std.specs.Prelude.{◌≡◌, Option, None, Some, Result, Ok, Err, IsSome, option_map}
use Rattle.http_header.specs.FieldValue.{FieldValue, plain_value}
use Rattle.headers_syntax.{specs.HeaderLaws.Grammar, specs.Lines.{Line, first_line}, specs.Shapes.one_line}
use Rattle.headers_syntax.{specs.declared.error.Refused.Refused, specs.declared.error.Refused.TheVariants.Invalid}
use Rattle.headers_syntax.specs.declared.error.Refused.TheVariants.{Memory}
use Rattle.headers_ranges.{specs.ByteRanges.range_line, specs.declared.range.Range.Range}

-- the header stores the field line, and encodes to it
abbrev pub range_grammar : Grammar Range Line
range_grammar = one_line (λ range. range.bytes) first_line range_line (λ line. line)

-- the result is the value of the text, if there is one, and `Invalid` exactly if there is none
abbrev pub IsValueOf : {E : Type 0} → Option Line → Result FieldValue (Refused E) → Type 0
IsValueOf text (Ok value) = option_map plain_value text ≡ Some value
IsValueOf text (Err (Invalid e)) = text ≡ None
IsValueOf text (Err (Memory e)) = IsSome text
