use Rattle.{cache_store.specs.{Contents.responses_at, Kept.contents_of}, std.proofs.Common.{List, subst}}
use Rattle.{cache_rules.specs.declared.stored.StoredResponse.StoredResponse, std.specs.Bool.MatchBool}
use Rattle.cache_pass.{proofs.KeepLemmas.past-or-late, specs.{Keeping.IsLate, Removals.IsOutdated}}
use Rattle.cache_pass.proofs.cache.Cache.is_past.Goals as goal

pub returns-else-is_outdated : goal.returns-else-is_outdated
returns-else-is_outdated c = past-or-late (IsOutdated c.args.self.now.removals c.args.key.now c.args.clock)
    (IsLate (responses_at c.args.key.now (contents_of c.args.self.now.store)) c.args.came.now) c.is_late.result
    c.if-is_outdated.ensures (subst (λ (l : List StoredResponse). MatchBool c.is_late.result (IsLate l c.args.came.now)
    (¬ (IsLate l c.args.came.now))) c.responses.ensures c.is_late.ensures)
