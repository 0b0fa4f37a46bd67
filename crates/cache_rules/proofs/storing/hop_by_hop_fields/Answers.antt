use Rattle.std.proofs.Common.{refl}
use Rattle.cache_rules.proofs.storing.hop_by_hop_fields.Goals as goal

pub loop-name-init : goal.loop-name-init
loop-name-init c = record {
  fields = rw (
    c.new-fields.ensures.items,
    c.into_iter-name-iterator.ensures.into_iter_gives,
    c.keys-name-items.ensures.value,
  ) refl;
  some = rw (c.into_iter-name-iterator.ensures.into_iter_gives, c.keys-name-items.ensures.value) (λ is. is);
}
