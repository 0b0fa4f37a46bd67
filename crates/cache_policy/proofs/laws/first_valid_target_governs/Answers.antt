use Rattle.std.proofs.Common.{refl}
use Rattle.cache_policy.proofs.laws.first_valid_target_governs.Goals as goal

pub returns-clause-first : goal.returns-clause-first
returns-clause-first c name names response said e = rw e refl

pub returns-clause-invalid : goal.returns-clause-invalid
returns-clause-invalid c name names response e = rw e refl

pub returns-clause-none : goal.returns-clause-none
returns-clause-none c response = refl
