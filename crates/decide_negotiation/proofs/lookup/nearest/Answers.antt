use Rattle.std.proofs.Common.{◌≡◌, ◌∙◌, true, length, ap, arith, Some, option_copied}
use Rattle.{headers_syntax.specs.Lines.lines_of, rfc_fields.specs.Members.field_members}
use Rattle.decide_negotiation.specs.{Choice.led, Lookup.{nearness, offer_nearness}}
use Rattle.decide_negotiation.proofs.ChoiceLemmas.{leader_is_picked, leading_on}
use Rattle.decide_negotiation.proofs.lookup.nearest.Goals as goal

pub loop-place-preserved : goal.loop-place-preserved
loop-place-preserved c =
    let score = offer_nearness (field_members true (lines_of c.args.field.now)) (option_copied c.args.wanted) in
    let offer = c.index-offers-place.result in
    let scored : c.nearness-score.result ≡ score offer = c.nearness-score.ensures
    ∙ ap (nearness (field_members true (lines_of c.args.field.now)) (option_copied c.args.wanted))
    c.as_bytes.ensures.value in
    let is : c.led-leader.result ≡ led c.loop-place.leader (Some c.loop-place.place) (score offer) =
    c.led-leader.ensures ∙ ap (led c.loop-place.leader (Some c.loop-place.place)) scored in
    rw (← is) at (leading_on score _ _ offer c.loop-place-test.true c.index-offers-place.is _ c.loop-place.invariant)

pub returns : goal.returns
returns c =
    let score = offer_nearness (field_members true (lines_of c.args.field.now)) (option_copied c.args.wanted) in
    let ends : c.loop-place.place ≡ length c.args.offers.now = omega arith in
    leader_is_picked score _ _ (rw ends at c.loop-place.invariant)
