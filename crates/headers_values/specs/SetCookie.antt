-- The header `set-cookie`: all its field lines in order, of which there is at least one.
use Rattle.std.specs.Prelude.{List}
use Rattle.headers_syntax.{specs.Lines.{Line, lines_of}, specs.HeaderLaws.Grammar, specs.Shapes.all_kept}
use Rattle.headers_values.specs.declared.set_cookie.SetCookie.{SetCookie}

abbrev pub set_cookie_grammar : Grammar SetCookie (List Line)
set_cookie_grammar = all_kept lines_of
