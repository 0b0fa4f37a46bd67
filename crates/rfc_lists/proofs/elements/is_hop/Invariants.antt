use Rattle.{std.proofs.Common.{◌≡◌, map}, rfc_fields.specs.Members.members_left, rfc_lists.specs.Elements.are_pairs}
use Rattle.rfc_lists.proofs.elements.is_hop.Given as goal

abbrev pub invariant-loop-parameter : goal.invariant-loop-parameter
invariant-loop-parameter l =
    are_pairs (map (λ name. name.now) l.initial.names.items) (members_left l.initial.parameter-iterator)
    ≡ are_pairs (map (λ name. name.now) l.names.items) (members_left l.parameter-iterator)
