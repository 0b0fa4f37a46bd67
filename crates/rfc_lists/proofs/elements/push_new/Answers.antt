use Rattle.{std.proofs.Common.{◌∙◌, ap, map, sym}, rfc_fields.specs.Members.member_of, rfc_lists.specs.Elements.is_new}
use Rattle.rfc_lists.proofs.ElementLemmas.{known_pair, new_pair, no_pair, text_of}
use Rattle.rfc_lists.proofs.elements.push_new.Goals as goal

pub returns-in_ok-push-in-Some : goal.returns-in_ok-push-in-Some
returns-in_ok-push-in-Some c = λ members. new_pair c.args.names.now.items (member_of c.args.member) members
    c.in-Some.name (sym c.in-Some.ensures) c.push.new.self.items
    (ap (λ names. is_new (map text_of names) c.in-Some.name.now) (sym c.as_slice.ensures.value)
    ∙ sym c.is_new.ensures ∙ c.if-is_new.true) c.in_ok-push-in-Some.ensures.items

pub returns-in_default : goal.returns-in_default
returns-in_default c = λ members. known_pair c.args.names.now.items (member_of c.args.member) members c.in-Some.name
    (sym c.in-Some.ensures) (ap (λ names. is_new (map text_of names) c.in-Some.name.now) (sym c.as_slice.ensures.value)
    ∙ sym c.is_new.ensures ∙ c.if-is_new.false)

pub returns-in_default-2 : goal.returns-in_default-2
returns-in_default-2 c = λ members. no_pair c.args.names.now.items (member_of c.args.member) members
    (sym (rw c.in_default.is at c.pair_name.ensures))
