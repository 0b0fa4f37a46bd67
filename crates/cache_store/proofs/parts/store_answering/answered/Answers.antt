use Rattle.cache_store.proofs.parts.store_answering.answered.Goals as goal

pub returns-in_default : goal.returns-in_default
returns-in_default c = rw c.in_default.is at c.in_ok-part.ensures.answer
