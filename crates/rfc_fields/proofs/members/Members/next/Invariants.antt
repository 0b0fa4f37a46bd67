use Rattle.{std.proofs.Common.{◌≡◌, length}, rfc_fields.specs.Members.{members_left, pieces_left}}
use Rattle.rfc_fields.proofs.members.Members.next.Given as goal

abbrev pub invariant-loop-piece : goal.invariant-loop-piece
invariant-loop-piece l = record {
  left : members_left l.initial.self ≡ members_left l.self;
  pairs : l.self.pairs ≡ l.initial.self.pairs;
}

abbrev pub decreases-loop-piece : goal.decreases-loop-piece
decreases-loop-piece l = length (pieces_left l.self)
