use Rattle.{cache_store.proofs.parts.CallLemmas.bool_map, std.proofs.Common.inr}
use Rattle.cache_store.proofs.parts.store.PartStore.is_superseded.Goals as goal

pub returns-in-Some : goal.returns-in-Some
returns-in-Some c = bool_map c.changes.result (λ changes. (c.in-Some.stored.now, c.in-Some.ensures, changes))
    (λ same. inr (c.in-Some.stored.now, c.in-Some.ensures, same)) c.changes.ensures
