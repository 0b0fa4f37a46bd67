use Rattle.{std.proofs.Common.◌∙◌, cache_rules.proofs.IdentifyingLemmas.{end_one, found_in, found_out}}
use Rattle.cache_rules.proofs.identifying.only_candidate.Goals as goal
use Rattle.cache_rules.proofs.identifying.only_candidate.Goals.{then-is_sought, else-is_sought}

pub loop-place-preserved : goal.loop-place-preserved
loop-place-preserved c = elim c.if-is_sought.branch [
  | then-is_sought w ↦
      found_in _ c.args.stored.now c.loop-place.place c.index-stored-place.result c.loop-place.found
      c.if-is_sought.found c.loop-place-test.true c.index-stored-place.is
      (rw w.if-is_sought.true at c.is_sought.ensures) (w.found-is ∙ w.one_more-found.ensures) c.loop-place.invariant
  | else-is_sought w ↦
      found_out _ c.args.stored.now c.loop-place.place c.index-stored-place.result c.loop-place.found
      c.if-is_sought.found c.loop-place-test.true c.index-stored-place.is
      (rw w.if-is_sought.false at c.is_sought.ensures) w.found-is c.loop-place.invariant
]

pub returns-in-One : goal.returns-in-One
returns-in-One c = end_one _ _ _ _ _ c.in-One.is c.loop-place-test.false c.loop-place.invariant
