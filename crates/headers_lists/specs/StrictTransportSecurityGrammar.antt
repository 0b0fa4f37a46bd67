-- The grammar of `strict-transport-security`.
use Rattle.headers_syntax.{specs.HeaderLaws.Grammar, specs.Lines.only_line, specs.Shapes.one_line}
use Rattle.headers_lists.specs.StrictTransportSecurity.{TransportSecurity, read_security, print_security}
use Rattle.headers_lists.specs.declared.strict_transport_security.StrictTransportSecurity.{StrictTransportSecurity}

-- the only field line is decoded, and the header stores the result
abbrev pub security_grammar : Grammar StrictTransportSecurity TransportSecurity
security_grammar = one_line (λ v. v) only_line read_security print_security
