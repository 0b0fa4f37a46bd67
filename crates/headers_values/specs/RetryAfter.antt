-- The header `retry-after`: the first field line is a number of seconds or a date.
use Rattle.headers_syntax.{specs.Lines.first_line, specs.HeaderLaws.Grammar, specs.Shapes.one_line}
use Rattle.headers_values.specs.RetryTime.{RetryTime, retry_time, retry_line}
use Rattle.headers_values.specs.declared.retry_after.RetryAfter.{RetryAfter}

abbrev pub retry_after_grammar : Grammar RetryAfter RetryTime
retry_after_grammar = one_line (λ v. v) first_line retry_time retry_line
