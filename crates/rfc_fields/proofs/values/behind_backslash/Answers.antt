use Rattle.{rfc_fields.proofs.ValueLemmas.{octets_pair, octets_plain}, std.proofs.{Common.arith, lemmas.Bool.eqb-false}}
use Rattle.std.proofs.lemmas.{Bool.eqb-true, Grind.common_steps}
use Rattle.rfc_fields.proofs.values.behind_backslash.Goals as goal

pub returns-then-is_empty : goal.returns-then-is_empty
returns-then-is_empty c = grind (arith, common_steps, octets_plain, eqb-true)

pub returns-then-text-eq92 : goal.returns-then-text-eq92
returns-then-text-eq92 c = grind (arith, common_steps, eqb-false, octets_pair)

pub returns-else-text-eq92 : goal.returns-else-text-eq92
returns-else-text-eq92 c = octets_plain c.args.is_quoted c.args.text.now (λ e f g. c.if-text-eq92.false f)
