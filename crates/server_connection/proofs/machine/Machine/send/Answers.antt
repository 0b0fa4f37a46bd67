use Rattle.std.proofs.Common.{length, refl, ap, ◌∙◌, inl, inr, arith}
use Rattle.server_connection.{proofs.PieceLemmas.{sends_literal, skips_range}, proofs.PopLemmas.{cuts_on, puts_on}}
use Rattle.server_connection.{proofs.PopLemmas.skips_on, specs.Machine.sends_left, proofs.TurnLemmas.sends_less}
use Rattle.server_connection.proofs.machine.Machine.send.Goals as goal

pub returns-in-Some-Literal-clause-sends : goal.returns-in-Some-Literal-clause-sends
returns-in-Some-Literal-clause-sends g c = λ now.
    let gives = g.A.Application.gives now in
    elim c.put.ensures [
      | inl puts ↦ puts_on gives c.args.self.now puts refl
          (rw (c.in-Some-Literal.ensures.items, c.in-Some-Literal.field-0-is, c.as_slice.ensures, puts.left)
          (sends_literal gives _ _))
      | inr cut ↦ cuts_on gives c.args.self.now cut refl
    ]

pub returns-in-Some-Range-clause-sends : goal.returns-in-Some-Range-clause-sends
returns-in-Some-Range-clause-sends g c = λ now.
    let gives = g.A.Application.gives now in
    elim c.skip.ensures [
      | inl none ↦ skips_on gives c.args.self.now none.1 refl
          (rw (none.1, c.in-Some-Range.ensures.items, c.in-Some-Range.field-0-is) (skips_range gives _ _ none.0))
      | inr cut ↦ cuts_on gives c.args.self.now cut refl
    ]

pub returns-in-None-clause-works : goal.returns-in-None-clause-works
returns-in-None-clause-works g c = λ is_open is.
    let new = c.finish.new.self in
    elim c.finish.ensures [
      | inl ended ↦ sends_less c.args.self.now new is is_open ended.rest.input
          (inl (λ i. sends_left (ended.phase i) new.state (length new.left.items)))
      | inr cut ↦ sends_less c.args.self.now new is is_open cut.rest.input
          (inl (λ i. sends_left ((cut.phase ∙ is) i) (cut.state i) (length new.left.items)))
    ]

pub returns-in-Some-Literal-clause-works : goal.returns-in-Some-Literal-clause-works
returns-in-Some-Literal-clause-works g c = λ is_open is.
    let new = c.put.new.self in
    elim c.put.ensures [
      | inl puts ↦ sends_less c.args.self.now new is is_open puts.rest.input
          (inr (omega (arith, ap length puts.left, ap length c.in-Some-Literal.ensures.items)))
      | inr cut ↦ sends_less c.args.self.now new is is_open cut.rest.input
          (inl (λ i. sends_left ((cut.phase ∙ is) i) (cut.state i) (length new.left.items)))
    ]

pub returns-in-Some-Range-clause-works : goal.returns-in-Some-Range-clause-works
returns-in-Some-Range-clause-works g c = λ is_open is.
    let new = c.skip.new.self in
    elim c.skip.ensures [
      | inl none ↦ sends_less c.args.self.now new is is_open (ap (λ m. m.input.items) none.1)
          (inr (omega (arith, ap (λ m. length m.left.items) none.1, ap length c.in-Some-Range.ensures.items)))
      | inr cut ↦ sends_less c.args.self.now new is is_open cut.rest.input
          (inl (λ i. sends_left ((cut.phase ∙ is) i) (cut.state i) (length new.left.items)))
    ]
