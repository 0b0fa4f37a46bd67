-- The header `sec-websocket-version`: its first field line is `13`.
use Rattle.std.specs.Prelude.{codes}
use Rattle.headers_syntax.{specs.Lines.Line, specs.HeaderLaws.Grammar, specs.Shapes.first_word}
use Rattle.headers_connection.specs.declared.sec_websocket_version.SecWebsocketVersion.{SecWebsocketVersion}

abbrev pub sec_websocket_version_grammar : Grammar SecWebsocketVersion Line
sec_websocket_version_grammar = first_word (codes "13") (λ _. codes "13")
