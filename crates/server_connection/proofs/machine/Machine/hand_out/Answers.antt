use Rattle.std.proofs.Common.{ℕ, ◌==◌, List, [], length, refl, sym, ap, ◌∙◌, subst, arith}
use Rattle.server_connection.{specs.Machine.{CutsOff, Moves}, specs.Pieces.Shortens, proofs.PopLemmas.cut_from}
use Rattle.server_connection.{specs.declared.machine.Machine.Machine, proofs.TurnLemmas.{if_none, moves_out}}
use Rattle.server_connection.proofs.TurnLemmas.{offered_cut, offered_range, offers_bytes, offers_range}
use Rattle.server_connection.proofs.machine.Machine.hand_out.Goals.{then-not-is_empty-via-then-not-is_empty}
use Rattle.server_connection.proofs.machine.Machine.hand_out.Goals.{then-not-is_empty-via-else-not-is_empty+then-is_none}
use Rattle.server_connection.proofs.machine.Machine.hand_out.Goals.{then-not-is_empty-via-else-not-is_empty+else-is_none+then-not-shorten}
use Rattle.server_connection.proofs.machine.Machine.hand_out.Goals as goal

pub returns-then-count-len-clause-moves : goal.returns-then-count-len-clause-moves
returns-then-count-len-clause-moves g c = λ now bytes long offers.
    let plans = g.A.Application.plans in
    let gives = g.A.Application.gives in
    let old = c.args.self.now in
    subst (λ (t : List ℕ). Moves plans gives old now [] t c.hand_out_bytes.new.self now)
    (offers_bytes plans gives old now bytes c.args.count long (omega (arith, c.if-count-len.true, c.len.ensures.value))
    offers) (moves_out now c.args.count c.hand_out_bytes.ensures)

pub returns-then-not-is_empty-clause-moves : goal.returns-then-not-is_empty-clause-moves
returns-then-not-is_empty-clause-moves g c = λ now bytes long offers.
    let plans = g.A.Application.plans in
    let gives = g.A.Application.gives in
    let old = c.args.self.now in
    let x = offers_range plans gives old now bytes
    (λ fits. omega (arith, fits, long, c.if-count-len.false, c.len.ensures.value)) offers in
    let cut = c.abort.ensures in
    elim c.then-not-is_empty.branch [
      | then-not-is_empty-via-then-not-is_empty w ↦
          let wrong = sym w.if-not-is_empty.true ∙ c.is_empty.ensures ∙ ap (λ (t : List ℕ). length t == 0) x.0 in
          absurd (cc)
      | then-not-is_empty-via-else-not-is_empty+then-is_none w ↦
          absurd (if_none w.range.result w.range.ensures.none (w.if-is_none.ensures) x.1 x.2)
      | then-not-is_empty-via-else-not-is_empty+else-is_none+then-not-shorten w ↦
          offered_cut now bytes x (cut_from old (subst (λ (m : Machine). CutsOff m c.abort.new.self) w.self-is
          (record { rest = cut.rest; phase = cut.keeps.phase; state = cut.state; output = cut.output })) refl)
    ]

pub returns-then-not-is_empty-clause-range : goal.returns-then-not-is_empty-clause-range
returns-then-not-is_empty-clause-range g c = λ extent next none some can. absurd (elim c.then-not-is_empty.branch [
  | then-not-is_empty-via-then-not-is_empty w ↦
      let wrong = sym w.if-not-is_empty.true ∙ c.is_empty.ensures ∙ ap (λ (t : List ℕ). length t == 0) none in cc
  | then-not-is_empty-via-else-not-is_empty+then-is_none w ↦
      if_none w.range.result w.range.ensures.none (w.if-is_none.ensures) extent next
  | then-not-is_empty-via-else-not-is_empty+else-is_none+then-not-shorten w ↦
      w.shorten.ensures.fails w.if-not-shorten.true can
])

pub returns-else-not-shorten-clause-moves : goal.returns-else-not-shorten-clause-moves
returns-else-not-shorten-clause-moves g c = λ now bytes long offers.
    let plans = g.A.Application.plans in
    let gives = g.A.Application.gives in
    let old = c.args.self.now in
    offered_range now bytes (offers_range plans gives old now bytes
    (λ fits. omega (arith, fits, long, c.if-count-len.false, c.len.ensures.value)) offers) refl
    (subst (Shortens old.left.items c.shorten.new.left.items) (sym long)
    (c.shorten.ensures.shortens c.if-not-shorten.false))
