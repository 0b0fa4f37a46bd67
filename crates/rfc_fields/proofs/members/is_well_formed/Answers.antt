use Rattle.{rfc_fields.proofs.PieceLemmas.{malformed_by, well_formed_by}, std.proofs.Common.arith}
use Rattle.std.proofs.lemmas.Grind.{common_steps}
use Rattle.rfc_fields.proofs.members.is_well_formed.Goals as goal

pub returns-in-Err : goal.returns-in-Err
returns-in-Err c = grind (arith, common_steps, malformed_by)

pub returns : goal.returns
returns c = grind (arith, common_steps, well_formed_by)
