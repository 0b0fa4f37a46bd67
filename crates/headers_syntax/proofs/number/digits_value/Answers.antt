use Rattle.std.proofs.Common.{rules, refl, arith}
use Rattle.headers_syntax.proofs.DigitsLemmas.{begun, fits, no_digit, step, finished}
use Rattle.headers_syntax.proofs.number.digits_value.Goals as goal

pub loop-at-init : goal.loop-at-init
loop-at-init c = begun _

pub returns-then-byte-lt48 : goal.returns-then-byte-lt48
returns-then-byte-lt48 c = rw (no_digit c.args.digits.now c.loop-at.at c.loop-at.number c.loop-at.invariant
    c.loop-at-test.true c.then-byte-lt48.either) refl

pub overflow_mul-number : goal.overflow_mul-number
overflow_mul-number c = let f = fits c.loop-at.at c.loop-at.number 0 (omega arith) c.loop-at.invariant.small
    (omega arith) in search (rules, f)

pub overflow_add-number : goal.overflow_add-number
overflow_add-number c = let f = fits c.loop-at.at c.loop-at.number c.from.result (omega arith) c.loop-at.invariant.small
    (omega (arith, c.from.ensures)) in search (rules, f)

pub loop-at-preserved : goal.loop-at-preserved
loop-at-preserved c = rw c.from.ensures (step c.args.digits.now c.loop-at.at c.loop-at.number c.loop-at.invariant
    c.loop-at-test.true c.if-byte-lt48.false c.if-byte-gt57.false)

pub returns : goal.returns
returns c = let f = finished c.args.digits.now c.loop-at.at c.loop-at.number c.loop-at.invariant (omega arith) in
    rw (f.0, f.1) refl
