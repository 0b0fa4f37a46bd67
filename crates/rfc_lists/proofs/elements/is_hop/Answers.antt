use Rattle.{std.proofs.Common.{ap, map}, rfc_fields.specs.Members.members_left}
use Rattle.rfc_lists.proofs.ElementLemmas.{after_first, no_pairs_left, not_first, text_of}
use Rattle.rfc_lists.proofs.elements.is_hop.Goals as goal

pub returns-then-not-branch : goal.returns-then-not-branch
returns-then-not-branch c = not_first c.args.element.now c.in-Ok.parts.value.now (members_left c.in-Ok.parts.parameters)
    c.in-Ok.ensures _ (ap (map text_of) c.new-names.ensures.items) _ _
    (c.in_ok-push_first_new.ensures (members_left c.in-Ok.parts.parameters)) c.if-not-branch.true

pub returns-then-not-branch-2 : goal.returns-then-not-branch-2
returns-then-not-branch-2 c =
    let first = after_first c.args.element.now c.in-Ok.parts.value.now (members_left c.in-Ok.parts.parameters)
    c.in-Ok.ensures _ (ap (map text_of) c.new-names.ensures.items) _ _
    (c.in_ok-push_first_new.ensures (members_left c.in-Ok.parts.parameters)) c.if-not-branch.false in
    let pushed = c.in_ok-push_new.ensures (members_left c.next.new.self) in
    let wrong = rw c.if-not-branch-2.true at pushed in
    let next = c.in-Some.ensures.steps in
    let invariant = rw next at c.loop-parameter.invariant in
    cc (first, wrong, invariant, c.into_iter-parameter-iterator.ensures.into_iter_gives)

pub returns : goal.returns
returns c =
    let first = after_first c.args.element.now c.in-Ok.parts.value.now (members_left c.in-Ok.parts.parameters)
    c.in-Ok.ensures _ (ap (map text_of) c.new-names.ensures.items) _ _
    (c.in_ok-push_first_new.ensures (members_left c.in-Ok.parts.parameters)) c.if-not-branch.false in
    let names = map text_of c.loop-parameter.names.items in
    let last = no_pairs_left names (members_left c.loop-parameter.parameter-iterator) c.in-None.ensures.steps.0 in
    cc (first, last, c.loop-parameter.invariant, c.into_iter-parameter-iterator.ensures.into_iter_gives)
