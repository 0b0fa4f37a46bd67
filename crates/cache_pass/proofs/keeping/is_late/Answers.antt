use Rattle.std.proofs.{Common.{arith, length, None, refl}, lemmas.Option.{slice_get_read, slice_get_within}}
use Rattle.{cache_pass.specs.Keeping.IsNewer, cache_rules.proofs.SelectionLemmas.step_out}
use Rattle.cache_pass.proofs.keeping.is_late.Goals as goal

pub loop-one-preserved : goal.loop-one-preserved
loop-one-preserved c = step_out (IsNewer c.args.came.now) c.args.stored.now c.loop-one.one-index c.one-item.result None
    None c.loop-one-test.true c.one-item.is c.if-is_newer.ensures refl c.loop-one.invariant

pub returns-then-is_newer : goal.returns-then-is_newer
returns-then-is_newer c = (
  c.loop-one.one-index,
  (
    c.one-item.result,
    slice_get_read c.args.stored.now (length c.args.stored.now) c.loop-one.one-index c.one-item.result refl
        c.loop-one-test.true c.one-item.is,
    c.if-is_newer.ensures,
  ),
)

pub returns : goal.returns
returns c = λ late. c.loop-one.invariant late.0 late.1.0
    (omega (arith, c.loop-one-test.false, slice_get_within c.args.stored.now late.0 late.1.0 late.1.1)) late.1.1
    late.1.2
