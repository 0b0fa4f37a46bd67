-- The header `expect`: its only field line is `100-continue`.
use Rattle.std.specs.Prelude.{codes}
use Rattle.headers_syntax.{specs.Lines.Line, specs.HeaderLaws.Grammar, specs.Shapes.only_word}
use Rattle.headers_connection.specs.declared.expect.Expect.{Expect}

abbrev pub expect_grammar : Grammar Expect Line
expect_grammar = only_word (codes "100-continue") (λ _. codes "100-continue")
