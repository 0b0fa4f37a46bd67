-- Whether a store has room for more.
use Rattle.std.specs.Prelude.{◌+◌, ◌<◌, ◌^◌, ◌≡◌, ◌≤◌, length, take, ℕ}
use Rattle.cache_store.specs.Contents.{Contents}
use Rattle.cache_store.specs.{Contents.{byte_count, response_count}, declared.limits.Limits.Limits, Numbers.AreNumbered}

-- with so many more responses and bytes the limits are kept
pub record HasRoom (limits : Limits) (responses bytes : ℕ) (contents : Contents) : Type 0 where
  pub few : response_count contents + responses ≤ limits.responses
  pub light : byte_count contents + bytes ≤ limits.bytes

-- a store with these contents has so many responses and bytes, within its limits, and gives this number next
pub record IsCounted (limits : Limits) (responses bytes next : ℕ) (contents : Contents) : Type 0 where
  pub counted : responses ≡ response_count contents
  pub weighed : bytes ≡ byte_count contents
  pub few : responses ≤ limits.responses
  pub light : bytes ≤ limits.bytes
  pub sized : limits.bytes < 2 ^ 64
  pub numbered : AreNumbered next contents

-- The most recently used targets that leave room: with one more there would be too little.
pub record IsLongestWithRoom (limits : Limits) (responses bytes : ℕ) (old new : Contents) : Type 0 where
  pub count : ℕ
  pub within : count ≤ length old
  pub front : new ≡ take count old
  pub room : HasRoom limits responses bytes new
  pub longest : count < length old → ¬ (HasRoom limits responses bytes (take (count + 1) old))
