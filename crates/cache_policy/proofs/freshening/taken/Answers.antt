use Rattle.std.proofs.Common.{refl}
use Rattle.cache_policy.proofs.freshening.taken.Goals as goal

pub loop-name-init : goal.loop-name-init
loop-name-init c =
    rw (c.new-fields.ensures.items, c.into_iter-name-iterator.ensures.into_iter_gives, c.keys-name-items.ensures.value)
    refl
