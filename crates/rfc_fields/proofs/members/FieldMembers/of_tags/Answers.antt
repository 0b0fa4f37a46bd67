use Rattle.{rfc_fields.proofs.PieceLemmas.no_members, std.proofs.{Common.{arith, false}, lemmas.Grind.common_steps}}
use Rattle.rfc_fields.proofs.members.FieldMembers.of_tags.Goals as goal

pub returns : goal.returns
returns c = grind (arith, common_steps, no_members false)
