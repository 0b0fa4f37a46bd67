use Rattle.cache_store.proofs.parts.MemoryLemmas.{recorded_needs, untaken_needs_none}
use Rattle.cache_store.proofs.parts.laws.memory_is_for_what_is_taken.Goals as goal

pub returns-clause-untaken : goal.returns-clause-untaken
returns-clause-untaken c = untaken_needs_none

pub returns-clause-taken : goal.returns-clause-taken
returns-clause-taken c = recorded_needs
