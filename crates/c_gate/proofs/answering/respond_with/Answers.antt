use Rattle.{std.proofs.Common.{ℕ, List, refl, subst}, http1.specs.{Head.pairs, declared.conn.BodySize.BodySize}}
use Rattle.{gateway_exchange.specs.Steps.RefusesGiving, c_gate.specs.Answers.size_of}
use Rattle.c_gate.proofs.answering.respond_with.Goals as goal

pub returns-in-Err : goal.returns-in-Err
returns-in-Err c =
    let old = c.args.gate.now.connection in
    let new = c.respond.new.self in
    let status = c.args.status in
    let lines = pairs c.args.lines.now in
    let error = c.in-Err.error in (
      error,
      c.failure_of.ensures,
      (
        subst
            (λ (reason : List ℕ). RefusesGiving old status reason lines (size_of old.asked status c.args.length) error
            new) c.reason_of.ensures
            (subst
            (λ (size : BodySize). RefusesGiving old status c.reason_of.result.now lines size error new)
            c.size_of-size.ensures c.in-Err.ensures),
        refl,
      ),
    )
