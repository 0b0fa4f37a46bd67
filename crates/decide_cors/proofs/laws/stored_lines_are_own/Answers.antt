use Rattle.decide_cors.proofs.VaryLemmas.{cache_same}
use Rattle.decide_cors.proofs.laws.stored_lines_are_own.Goals as goal

pub returns : goal.returns
returns c = cache_same
