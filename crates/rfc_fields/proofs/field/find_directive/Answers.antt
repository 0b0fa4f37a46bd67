use Rattle.{rfc_fields.proofs.FieldLemmas.{so_far_more, so_far_other}, std.proofs.Common.arith}
use Rattle.std.proofs.lemmas.Grind.{common_steps}
use Rattle.rfc_fields.proofs.field.find_directive.Goals as goal

pub loop-member-preserved : goal.loop-member-preserved
loop-member-preserved c = grind (arith, common_steps, so_far_more)

pub returns-in-Err : goal.returns-in-Err
returns-in-Err c =
    so_far_other _ _ _ _ _ _ _ c.new-members.ensures c.loop-member.invariant c.in-Some.ensures c.in-Err.ensures
