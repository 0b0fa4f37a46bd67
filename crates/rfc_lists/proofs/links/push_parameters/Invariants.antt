use Rattle.std.{proofs.Common.{◌≡◌, ◌++◌}, specs.Prelude.{flat_map, true}}
use Rattle.{rfc_fields.specs.Members.members_left, rfc_lists.specs.Lines.parameter_line}
use Rattle.rfc_lists.proofs.links.push_parameters.Given as goal

abbrev pub invariant-loop-parameter : goal.invariant-loop-parameter
invariant-loop-parameter l =
    l.initial.text.items ++ flat_map (parameter_line true) (members_left l.initial.parameter-iterator)
    ≡ l.text.items ++ flat_map (parameter_line true) (members_left l.parameter-iterator)
