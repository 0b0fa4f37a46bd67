-- Which stored responses a request that isn't safe makes invalid (RFC 9111, section 4.4).
use Rattle.std.specs.Prelude.{ℕ, ◌<◌, ◌≤◌, List}
use Rattle.cache_policy.specs.Requests.{IsSafe}

-- the response isn't an error: 2xx or 3xx
abbrev pub IsNonError : ℕ → Type 0
IsNonError status = (200 ≤ status) × (status < 400)

-- A response of this status to a request with this method invalidates what is stored for its target: the method isn't
-- known to be safe, and the response isn't an error.
abbrev pub Invalidates : List ℕ → ℕ → Type 0
Invalidates method status = (¬ (IsSafe method)) × IsNonError status
