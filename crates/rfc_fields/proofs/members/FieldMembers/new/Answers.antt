use Rattle.{rfc_fields.proofs.PieceLemmas.no_members, std.proofs.{Common.{arith, true}, lemmas.Grind.common_steps}}
use Rattle.rfc_fields.proofs.members.FieldMembers.new.Goals as goal

pub returns : goal.returns
returns c = grind (arith, common_steps, no_members true)
