use Rattle.std.proofs.Common.{sym, ◌∙◌, ap}
use Rattle.headers_syntax.{specs.Number.after_plus, proofs.NumberLemmas.{number-parse, number-digits}}
use Rattle.headers_syntax.proofs.number.parse_number.Goals as goal

pub returns-then-digits-le-SHORT : goal.returns-then-digits-le-SHORT
returns-then-digits-le-SHORT c =
    c.short_number.ensures ∙ number-digits _ _ (c.after_plus-digits.ensures ∙ ap after_plus c.as_bytes.ensures.value)

pub returns : goal.returns
returns c = c.ok.ensures.value ∙ sym (number-parse _ _ c.parse.ensures.value.0)
