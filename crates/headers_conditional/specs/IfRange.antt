-- The header `if-range` (RFC 9110, section 13.1.5): the first line is an entity tag, or else a date.
use Rattle.headers_syntax.{specs.HeaderLaws.Grammar, specs.Lines.first_line, specs.Shapes.one_line}
use Rattle.headers_conditional.specs.Validator.{Validator, unmarked, validator, validator_line}
use Rattle.headers_conditional.specs.declared.if_range.IfRange.{IfRange}

abbrev pub if_range_grammar : Grammar IfRange Validator
if_range_grammar = one_line unmarked first_line validator validator_line
