use Rattle.std.proofs.Common.{[], ◌∷◌}
use Rattle.headers_syntax.{specs.Text.is_blank, proofs.StripLemmas.{strip_set, blank_ascii, is_blank_set}}
use Rattle.headers_syntax.proofs.text.trim_text.Goals as goal

pub returns : goal.returns
returns c = strip_set is_blank (9 ∷ 32 ∷ []) blank_ascii is_blank_set _ _ _ c.trim_start_matches.ensures.matches
    c.trim_end_matches.ensures.matches
