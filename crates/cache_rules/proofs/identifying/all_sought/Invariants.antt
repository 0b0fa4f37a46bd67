use Rattle.{std.specs.Prelude.Some, headers.specs.LineMap.lines_at, cache_policy.specs.Requests.request_of}
use Rattle.cache_rules.{specs.Selection.IsSought, proofs.IdentifyingLemmas.AreBelow}
use Rattle.cache_rules.proofs.identifying.all_sought.Given as goal

-- the places so far
abbrev pub invariant-loop-place : goal.invariant-loop-place
invariant-loop-place l =
    AreBelow (IsSought (request_of l.request) (Some (lines_at l.update))) l.stored l.place l.places.items
