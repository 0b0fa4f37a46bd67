use Rattle.cache_store.proofs.parts.PartLemmas.{joined-is-of, joined-order}
use Rattle.cache_store.proofs.parts.laws.combinations_are_of_the_representation.Goals as goal

pub returns-clause-joined : goal.returns-clause-joined
returns-clause-joined c = joined-is-of

pub returns-clause-order : goal.returns-clause-order
returns-clause-order c = joined-order
