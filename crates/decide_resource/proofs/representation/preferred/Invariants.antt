use Rattle.{headers.specs.LineMap.lines_at, decide_negotiation.proofs.ChoiceLemmas.IsLeading}
use Rattle.decide_resource.specs.Representations.{score}
use Rattle.decide_resource.proofs.representation.preferred.Given as goal

abbrev pub invariant-loop-index : goal.invariant-loop-index
invariant-loop-index l = IsLeading (score l.negotiation (lines_at l.fields)) l.representations l.index
    (record { place = l.place; score = l.greatest })
