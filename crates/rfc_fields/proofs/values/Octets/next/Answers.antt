use Rattle.{rfc_fields.proofs.ValueLemmas.{octets_empty, octets_some}, std.proofs.Common.arith}
use Rattle.std.proofs.lemmas.Grind.{common_steps}
use Rattle.rfc_fields.proofs.values.Octets.next.Goals as goal

pub returns : goal.returns
returns c = grind (arith, common_steps, octets_some)

pub returns-in_err-octet : goal.returns-in_err-octet
returns-in_err-octet c = grind (arith, common_steps, octets_empty)
