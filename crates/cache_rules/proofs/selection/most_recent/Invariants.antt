use Rattle.cache_policy.specs.Requests.{request_of}
use Rattle.cache_rules.{specs.Selection.IsInSearch, proofs.SelectionLemmas.LeadsOf}
use Rattle.cache_rules.proofs.selection.most_recent.Given as goal

-- of the stored responses so far this is the most recent one that the search is about
abbrev pub invariant-loop-place : goal.invariant-loop-place
invariant-loop-place l = LeadsOf (IsInSearch (request_of l.request) l.search) l.stored l.place l.newest
