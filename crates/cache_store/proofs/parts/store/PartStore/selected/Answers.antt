use Rattle.cache_store.proofs.parts.CallLemmas.{selected_part}
use Rattle.cache_store.proofs.parts.store.PartStore.selected.Goals as goal

pub returns : goal.returns
returns c =
    selected_part _ _ _ _ _ _ c.head.ensures c.responses-parts.ensures c.index-parts-place.is c.in_ok-place.ensures
