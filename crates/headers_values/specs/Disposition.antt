-- The disposition in a field line of `content-disposition`.
use Rattle.std.{specs.Prelude.{◌==◌, Option, Some, None, if◌then◌else◌}, specs.List.before_first}
use Rattle.headers_syntax.{specs.Lines.Line, specs.Text.is_text}
use Rattle.headers_items.specs.Places.{semicolon}

-- what is before the first semicolon, or the whole line; a line that isn't text has no disposition
abbrev pub disposition_of : Line → Option Line
disposition_of line = if is_text line then Some (before_first (λ b. b == semicolon) line) else None
