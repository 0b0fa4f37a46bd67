use Rattle.std.proofs.Common.{refl, sym, subst, ap, ◌∙◌, inl, inr}
use Rattle.http_server.{specs.Machine.{HasRequest, Holds, IsStarved}, proofs.MachineLemmas.{with_server, after_event}}
use Rattle.http_server.proofs.MachineLemmas.{left_starved, unreadable}
use Rattle.server_connection.{specs.declared.machine.Machine.Machine, specs.Machine.{Past, core}}
use Rattle.server_connection.proofs.TurnLemmas.{has_no_head, refused_on, step_asks, step_by, step_opens}
use Rattle.server_connection.proofs.machine.Machine.read.Goals as goal

pub returns-then-missing-gt0-clause-stays : goal.returns-then-missing-gt0-clause-stays
returns-then-missing-gt0-clause-stays g c = λ now.
    step_by c.args.self.now now c.wait.ensures.keeps c.wait.ensures.puts c.requires.phase c.requires.state
    (λ p x. c.wait.ensures.reaches p (c.missing.ensures c.if-missing-gt0.true p x c.requires.state))

pub returns-in-Err-clause-stays : goal.returns-in-Err-clause-stays
returns-in-Err-clause-stays g c = λ now.
    step_by c.args.self.now now c.refuse.ensures.keeps (refused_on refl c.refuse.ensures.puts) c.requires.phase
    c.requires.state (λ p x. c.refuse.ensures.reaches p (unreadable (core c.args.self.now p) c.read.new.self c.in-Err.e
    c.requires.state (rw (c.as_slice.ensures, c.requires.spans) at c.in-Err.ensures.err) x))

pub returns-in-Head-clause-stays : goal.returns-in-Head-clause-stays
returns-in-Head-clause-stays g c = λ now.
    let old = c.args.self.now in
    let open_now = c.requires.state in
    let reads = rw c.as_slice.ensures at c.in-Ok.ensures.ok in
    let head = λ (p : Past) (x : Holds (core old p)).
    after_event (core old p) c.read.new.headers c.read.new.self c.in-Ok.read _ c.in-Head.is open_now reads x in
    step_opens old now c.begin.ensures.keeps c.requires.phase open_now (λ p x. c.begin.ensures.reaches p (head p x))
    (λ p x. has_no_head old p c.read.new.headers c.read.new.self c.in-Ok.read _ c.in-Head.is open_now reads x)
    c.read.new.headers _ head (λ p x. c.begin.ensures.puts p (head p x))

pub returns-in-Data-clause-stays : goal.returns-in-Data-clause-stays
returns-in-Data-clause-stays g c = λ now. step_by c.args.self.now now c.take.ensures.keeps c.take.ensures.puts
    c.requires.phase c.requires.state (λ p x. c.take.ensures.reaches p
    (after_event (core c.args.self.now p) c.read.new.headers c.read.new.self c.in-Ok.read _
    c.in-Data.is c.requires.state (rw c.as_slice.ensures at c.in-Ok.ensures.ok) x))

pub returns-in-End-clause-stays : goal.returns-in-End-clause-stays
returns-in-End-clause-stays g c = λ now. step_asks c.args.self.now _ c.read.new.self c.advance.new.self now
    c.requires.phase c.requires.state
    (λ p x. subst (λ t. HasRequest (with_server (core c.args.self.now p) c.read.new.self t))
    (sym c.advance.ensures.items)
    (after_event (core c.args.self.now p) c.read.new.headers c.read.new.self c.in-Ok.read _ c.in-End.is
    c.requires.state (rw c.as_slice.ensures at c.in-Ok.ensures.ok) x)) c.ask.ensures.asks

pub returns-in_default-clause-stays : goal.returns-in_default-clause-stays
returns-in_default-clause-stays g c = λ now. step_by c.args.self.now now c.wait-in_default.ensures.keeps
    c.wait-in_default.ensures.puts c.requires.phase c.requires.state (λ p x. c.wait-in_default.ensures.reaches p
    (subst (λ t. IsStarved (with_server (core c.args.self.now p) c.read.new.self t))
    (sym c.advance-in_default.ensures.items)
    (left_starved _ (core c.args.self.now p) c.read.new.headers c.read.new.self _ c.in_default.not-Head
    c.in_default.not-Data
    c.in_default.not-End (after_event (core c.args.self.now p) c.read.new.headers c.read.new.self c.in-Ok.read _ refl
    c.requires.state (rw c.as_slice.ensures at c.in-Ok.ensures.ok) x))))

pub returns-then-missing-gt0-clause-rests : goal.returns-then-missing-gt0-clause-rests
returns-then-missing-gt0-clause-rests g c = λ stops phase p x.
    c.wait.ensures.rests p (c.missing.ensures c.if-missing-gt0.true p x c.requires.state)

pub returns-in-Err-clause-rests : goal.returns-in-Err-clause-rests
returns-in-Err-clause-rests g c = λ stops phase p x. λ is_open. absurd (c.refuse.ensures.stops.1 is_open)

pub returns-in-Head-clause-rests : goal.returns-in-Head-clause-rests
returns-in-Head-clause-rests g c = λ stops phase p x. λ is_open. absurd (c.begin.ensures.stops stops is_open)

pub returns-in-Data-clause-rests : goal.returns-in-Data-clause-rests
returns-in-Data-clause-rests g c = λ stops phase p x. λ is_open. absurd (c.take.ensures.stops stops is_open)

pub returns-in-End-clause-rests : goal.returns-in-End-clause-rests
returns-in-End-clause-rests g c = λ stops phase p x. λ is_open. elim c.ask.ensures.asks [
  | inl asks ↦ let wrong = sym (ap (λ (m : Machine). m.phase) asks.same) ∙ phase in cc
  | inr over ↦ let wrong = sym over.aborted.0 ∙ is_open in cc
]

pub returns-in_default-clause-rests : goal.returns-in_default-clause-rests
returns-in_default-clause-rests g c = λ stops phase p x. c.wait-in_default.ensures.rests p
    (subst (λ t. IsStarved (with_server (core c.args.self.now p) c.read.new.self t))
    (sym c.advance-in_default.ensures.items)
    (left_starved _ (core c.args.self.now p) c.read.new.headers c.read.new.self _ c.in_default.not-Head
    c.in_default.not-Data
    c.in_default.not-End (after_event (core c.args.self.now p) c.read.new.headers c.read.new.self c.in-Ok.read _ refl
    c.requires.state (rw c.as_slice.ensures at c.in-Ok.ensures.ok) x)))
