use Rattle.std.proofs.{Common.length, Common.refl, lemmas.Option.slice_get_read}
use Rattle.headers_map.proofs.InsertLemmas.{OnErr-from}
use Rattle.cache_rules.proofs.IdentifyingLemmas.{all_below, below_in, below_out, none_below}
use Rattle.cache_rules.proofs.identifying.all_sought.Goals.{then-is_sought+in_ok-push, else-is_sought}
use Rattle.cache_rules.proofs.identifying.all_sought.Goals as goal

pub loop-place-init : goal.loop-place-init
loop-place-init c = rw c.new-places.ensures.items (none_below _ _)

pub loop-place-preserved : goal.loop-place-preserved
loop-place-preserved c = elim c.if-is_sought.branch [
  | then-is_sought+in_ok-push w ↦
      rw w.places-is (below_in _ _ _ _ _ _ c.loop-place-test.true c.index-stored-place.is
      (rw w.if-is_sought.true at c.is_sought.ensures) w.in_ok-push.ensures.items c.loop-place.invariant)
  | else-is_sought w ↦
      rw w.places-is (below_out _ _ _ _ _ _ c.loop-place-test.true c.index-stored-place.is
      (rw w.if-is_sought.false at c.is_sought.ensures) refl c.loop-place.invariant)
]

pub returns-clause-places : goal.returns-clause-places
returns-clause-places c = all_below _ _ _ _ c.loop-place-test.false c.loop-place.auto.place-end c.loop-place.invariant

pub returns-in_err-push-clause-memory : goal.returns-in_err-push-clause-memory
returns-in_err-push-clause-memory c = OnErr-from c.from_residual.result (
  c.loop-place.place,
  (
    c.index-stored-place.result,
    slice_get_read c.args.stored.now (length c.args.stored.now) c.loop-place.place c.index-stored-place.result refl
        c.loop-place-test.true c.index-stored-place.is,
    (rw c.if-is_sought.true at c.is_sought.ensures),
  ),
)
