use Rattle.{std.proofs.Common.true, headers_syntax.specs.Lines.lines_of, rfc_fields.specs.Members.field_left}
use Rattle.{rfc_fields.specs.Members.field_members, decide_negotiation.proofs.LookupLemmas.SoFar}
use Rattle.decide_negotiation.proofs.lookup.found.Given as goal

abbrev pub invariant-loop-member : goal.invariant-loop-member
invariant-loop-member l = SoFar (field_members true (lines_of l.field)) l.offers (field_left l.member-iterator) l.leader
