use Rattle.std.proofs.Common.{arith}
use Rattle.cache_store.proofs.parts.laws.memory_stays_within_the_limits.Goals as goal

pub returns : goal.returns
returns c = λ store. record {
  few = omega (arith, store.store.counted.few, store.store.counted.counted);
  light = omega (arith, store.store.counted.light, store.store.counted.weighed);
}
