use Rattle.{std.{proofs.Common.{◌≡◌, ◌++◌}, specs.Prelude.flat_map}, rfc_fields.specs.Members.field_left}
use Rattle.rfc_lists.specs.Elements.{shown_element}
use Rattle.rfc_lists.proofs.elements.elements_text.Given as goal

abbrev pub invariant-loop-member : goal.invariant-loop-member
invariant-loop-member l = flat_map (shown_element l.form) (field_left l.initial.member-iterator)
    ≡ l.text.items ++ flat_map (shown_element l.form) (field_left l.member-iterator)
