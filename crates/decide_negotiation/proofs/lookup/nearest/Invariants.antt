use Rattle.{std.proofs.Common.{true, option_copied}, headers_syntax.specs.Lines.lines_of}
use Rattle.{rfc_fields.specs.Members.field_members, decide_negotiation.specs.Lookup.offer_nearness}
use Rattle.decide_negotiation.proofs.ChoiceLemmas.{IsLeading}
use Rattle.decide_negotiation.proofs.lookup.nearest.Given as goal

abbrev pub invariant-loop-place : goal.invariant-loop-place
invariant-loop-place l = IsLeading (offer_nearness (field_members true (lines_of l.field)) (option_copied l.wanted))
    l.offers l.place l.leader
