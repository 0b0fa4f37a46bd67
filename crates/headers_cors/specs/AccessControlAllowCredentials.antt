-- The header `access-control-allow-credentials`: its first field line is `true`.
use Rattle.std.specs.Prelude.{codes}
use Rattle.headers_syntax.{specs.Lines.Line, specs.HeaderLaws.Grammar, specs.Shapes.first_word}
use Rattle.headers_cors.specs.declared.access_control_allow_credentials.AccessControlAllowCredentials as declared

abbrev pub access_control_allow_credentials_grammar : Grammar declared.AccessControlAllowCredentials Line
access_control_allow_credentials_grammar = first_word (codes "true") (λ _. codes "true")
