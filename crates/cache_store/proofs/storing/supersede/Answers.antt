use Rattle.{cache_policy.specs.Requests.request_of, cache_store.proofs.StoringLemmas.{superseded, unsuperseded}}
use Rattle.cache_store.proofs.storing.supersede.Goals as goal

pub returns-then-has_method-clause-rest : goal.returns-then-has_method-clause-rest
returns-then-has_method-clause-rest c = let request = request_of c.args.request.now in
    let found = rw c.deref.ensures.value at c.in-Some.ensures in
    superseded request _ _ found _ c.index.ensures c.if-has_method.ensures _ c.remove.ensures.items

pub returns-else-has_method-clause-rest : goal.returns-else-has_method-clause-rest
returns-else-has_method-clause-rest c = let request = request_of c.args.request.now in
    let found = rw c.deref.ensures.value at c.in-Some.ensures in
    unsuperseded request _ _ found _ c.index.ensures c.if-has_method.ensures
