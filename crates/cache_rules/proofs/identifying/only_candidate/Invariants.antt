use Rattle.cache_policy.specs.Requests.{request_of}
use Rattle.cache_rules.{specs.Selection.IsCandidate, proofs.IdentifyingLemmas.FoundBelow}
use Rattle.cache_rules.proofs.identifying.only_candidate.Given as goal

-- what is found of the stored responses so far
abbrev pub invariant-loop-place : goal.invariant-loop-place
invariant-loop-place l = FoundBelow (IsCandidate (request_of l.request)) l.stored l.place l.found
