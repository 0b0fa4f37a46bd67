use Rattle.{std.proofs.Common.{inl, refl}, updates.proofs.Examples.reads_milk}
use Rattle.updates.proofs.runs.storing_late_older_is_read.Goals as goal

pub returns-clause-older : goal.returns-clause-older
returns-clause-older c = reads_milk _ (inl refl)
