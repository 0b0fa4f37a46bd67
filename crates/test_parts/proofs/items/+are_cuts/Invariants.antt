use Rattle.std.proofs.Common.{length}
use Rattle.test_parts.proofs.items.+are_cuts.Given as goal

abbrev pub decreases-are_cuts : goal.decreases-are_cuts
decreases-are_cuts l = length l.places.now
