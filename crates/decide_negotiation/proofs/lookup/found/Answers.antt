use Rattle.{std.proofs.Common.{◌∙◌, List, None, true, ap, sym, subst}, headers_syntax.specs.Lines.lines_of}
use Rattle.rfc_fields.specs.{Members.{field_left, field_members}, Scan.Member}
use Rattle.decide_negotiation.proofs.LookupLemmas.{SoFar, so_far_end, so_far_more, so_far_none}
use Rattle.decide_negotiation.proofs.lookup.found.Goals as goal

pub loop-member-init : goal.loop-member-init
loop-member-init c =
    let field = field_members true (lines_of c.args.field.now) in
    subst (λ (left : List Member). SoFar field c.args.offers.now left (record { place = None; score = 0 }))
    (sym (ap field_left c.into_iter-member-iterator.ensures.into_iter_gives ∙ c.new-member-items.ensures))
    (so_far_none field c.args.offers.now)

pub loop-member-preserved : goal.loop-member-preserved
loop-member-preserved c = rw (← c.led-leader.ensures) at
    (so_far_more _ _ _ _ _ _ _ c.loop-member.invariant c.in-Some.ensures.steps c.found_by-found.ensures)

pub returns : goal.returns
returns c = so_far_end _ _ _ _ c.loop-member.invariant c.in-None.ensures.steps.0
