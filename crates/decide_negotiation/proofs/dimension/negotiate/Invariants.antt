use Rattle.{http_header.specs.HeaderMap.get_all, headers_syntax.specs.Lines.lines_of}
use Rattle.decide_negotiation.{specs.{Choice.offer_rank, Qualities.quality_in}, proofs.ChoiceLemmas.IsLeading}
use Rattle.decide_negotiation.proofs.dimension.negotiate.Given as goal

abbrev pub invariant-loop-place : goal.invariant-loop-place
invariant-loop-place g l =
    IsLeading (offer_rank (quality_in g.D.Dimension.gives (lines_of (get_all l.request g.D.Dimension.NAME)))) l.offers
    l.place l.leader
