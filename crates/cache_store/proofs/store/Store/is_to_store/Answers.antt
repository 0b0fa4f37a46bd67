use Rattle.cache_store.proofs.store.Store.is_to_store.Goals as goal

pub returns : goal.returns
returns c = let came = c.args.came.now in
    let reception = c.args.reception in rw c.policy.ensures at (rw c.head.ensures at c.is_stored.ensures)
