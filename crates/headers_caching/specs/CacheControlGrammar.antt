-- The grammar of `cache-control`.
use Rattle.headers_syntax.specs.HeaderLaws.{Grammar}
use Rattle.headers_caching.specs.CacheControl.{Directives, directives_of, lines_of_directives}
use Rattle.headers_caching.specs.declared.cache_control.CacheControl.{CacheControl}

-- a header stores its directives
abbrev pub cache_grammar : Grammar CacheControl Directives
cache_grammar = record { kept = λ v. v; value_of = directives_of; lines_of_value = lines_of_directives }
