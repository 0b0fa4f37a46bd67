use Rattle.cache_fields.specs.Directives.{directed}
use Rattle.cache_policy.{specs.Policies.tells, proofs.PolicyLemmas.{counted-stale, no_cache_asks, stale_where_allowed}}
use Rattle.cache_policy.proofs.laws.immutable_counts_while_fresh.Goals as goal

pub returns-clause-stale : goal.returns-clause-stale
returns-clause-stale c policy request response freshness h =
    counted-stale policy.immutable (directed request) (tells policy response) freshness h

pub returns-clause-allowed : goal.returns-clause-allowed
returns-clause-allowed c policy stored request response freshness decision h s l =
    stale_where_allowed policy stored request response freshness decision h s l

pub returns-clause-no_cache : goal.returns-clause-no_cache
returns-clause-no_cache c policy stored request response freshness decision e h m =
    no_cache_asks policy stored request response freshness decision e h m
