use Rattle.headers_syntax.{proofs.DateLemmas.{date-no_text, date-text}, specs.Text.trim}
use Rattle.{httpdate.specs.Date.parse_secs, std.proofs.Common.{Some, ap, refl, sym, ℕ, ◌∙◌}}
use Rattle.headers_syntax.proofs.date.Date1.from_val.Goals as goal

pub returns-in_default : goal.returns-in_default
returns-in_default c = sym (date-no_text _ (λ visible. absurd (cc (c.in_default.ensures.succeeds.1 visible))))

pub returns-in_default-parse_ascii : goal.returns-in_default-parse_ascii
returns-in_default-parse_ascii c = let shown = c.trim.ensures ∙ ap trim (c.as_bytes.ensures.value ∙ c.in-Ok.ensures.ok)
    in c.in_default-parse_ascii.ensures.secs ∙ ap parse_secs shown ∙ sym (date-text _ (c.in-Ok.ensures.succeeds.0 refl))

pub returns : goal.returns
returns c = let shown = c.trim.ensures ∙ ap trim (c.as_bytes.ensures.value ∙ c.in-Ok.ensures.ok) in
    ap (λ (n : ℕ). Some n) c.unix_secs.ensures.value ∙ c.in-Ok-parse_ascii.ensures.secs ∙ ap parse_secs shown ∙ sym
    (date-text _ (c.in-Ok.ensures.succeeds.0 refl))
