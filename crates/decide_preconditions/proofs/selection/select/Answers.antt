use Rattle.{std.proofs.Common.{inr, rules}, headers.specs.LineMap.lines_at}
use Rattle.decide_preconditions.{specs.Selection.AsksForSome, proofs.SelectionLemmas.asks_for}
use Rattle.decide_preconditions.proofs.selection.select.Goals as goal

pub returns-then-is_unsatisfiable-clause-selects : goal.returns-then-is_unsatisfiable-clause-selects
returns-then-is_unsatisfiable-clause-selects c = (c.in-Some.set.now, c.in-Some.ensures, c.if-is_unsatisfiable.ensures)

pub returns-in_err-parts-clause-memory : goal.returns-in_err-parts-clause-memory
returns-in_err-parts-clause-memory c =
    let some : AsksForSome c.args.facts.now.present c.args.request.now.method.now
    (lines_at c.args.request.now.fields.now) c.args.current.now c.args.facts.now.len c.args.facts.now.limits =
    (c.in-Some.set.now, c.in-Some.ensures, c.if-is_unsatisfiable.ensures) in
    search (rules, some)

pub returns-then-are_too_many-clause-selects : goal.returns-then-are_too_many-clause-selects
returns-then-are_too_many-clause-selects c =
    let asks = asks_for c.args.facts.now.present c.args.request.now.method.now (lines_at c.args.request.now.fields.now)
    c.args.current.now c.args.facts.now.len c.args.facts.now.limits c.in-Some.set.now c.in_ok-parts.parts.items
    c.in-Some.ensures c.in_ok-parts.ensures.coalesced c.in_ok-parts.ensures.covers c.if-is_unsatisfiable.ensures in
    inr (c.in-Some.set.now, c.in_ok-parts.parts.items, asks, search rules)

pub returns-clause-selects : goal.returns-clause-selects
returns-clause-selects c =
    let asks = asks_for c.args.facts.now.present c.args.request.now.method.now (lines_at c.args.request.now.fields.now)
    c.args.current.now c.args.facts.now.len c.args.facts.now.limits c.in-Some.set.now c.in_ok-parts.parts.items
    c.in-Some.ensures c.in_ok-parts.ensures.coalesced c.in_ok-parts.ensures.covers c.if-is_unsatisfiable.ensures in
    (c.in-Some.set.now, asks, search rules)
