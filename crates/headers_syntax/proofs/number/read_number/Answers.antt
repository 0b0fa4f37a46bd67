use Rattle.headers_syntax.{proofs.NumberLemmas.{number-digits, number-none, number-parse}, specs.Number.after_plus}
use Rattle.{headers_syntax.specs.Number.number, std.proofs.Common.{ap, sym, ◌∙◌}}
use Rattle.headers_syntax.proofs.number.read_number.Goals as goal

pub returns-then-digits-le-SHORT : goal.returns-then-digits-le-SHORT
returns-then-digits-le-SHORT c =
    c.short_number.ensures ∙ number-digits _ _ (c.after_plus-digits.ensures ∙ ap after_plus c.as_bytes.ensures.value)

pub returns-in-Ok : goal.returns-in-Ok
returns-in-Ok c = c.ok.ensures.value ∙ sym (number-parse _ _ c.parse.ensures.value.0) ∙ ap number c.in-Ok.ensures.ok

pub returns-in-Err : goal.returns-in-Err
returns-in-Err c = sym (number-none _ (λ visible. absurd (cc (c.in-Err.ensures.succeeds.1 visible))))
