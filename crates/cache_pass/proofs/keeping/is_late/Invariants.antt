use Rattle.{cache_pass.specs.Keeping.IsNewer, cache_rules.proofs.SelectionLemmas.LeadsOf, std.proofs.Common.None}
use Rattle.cache_pass.proofs.keeping.is_late.Given as goal

-- none of the stored responses so far is newer
abbrev pub invariant-loop-one : goal.invariant-loop-one
invariant-loop-one l = LeadsOf (IsNewer l.came) l.stored l.one-index None
