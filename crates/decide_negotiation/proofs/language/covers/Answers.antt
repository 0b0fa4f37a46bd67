use Rattle.{std.proofs.Common.{◌∙◌, sym}, decide_negotiation.proofs.LanguageLemmas.covers-end}
use Rattle.decide_negotiation.proofs.language.covers.Goals as goal

pub returns-in_default : goal.returns-in_default
returns-in_default c = sym (c.loop-byte.invariant ∙ covers-end _ _ _ c.loop-byte-test.true c.in_default.ensures.cases)
