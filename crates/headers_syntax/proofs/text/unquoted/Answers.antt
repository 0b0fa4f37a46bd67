use Rattle.std.proofs.Common.{[], ◌∷◌}
use Rattle.headers_syntax.{specs.Text.is_quote, proofs.StripLemmas.{strip_set, quote_ascii, is_quote_set}}
use Rattle.headers_syntax.proofs.text.unquoted.Goals as goal

pub returns : goal.returns
returns c = strip_set is_quote (34 ∷ []) quote_ascii is_quote_set _ _ _ c.trim_start_matches.ensures.matches
    c.trim_end_matches.ensures.matches
