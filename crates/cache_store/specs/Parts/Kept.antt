-- What a store of parts has.
use Rattle.cache_store.specs.{Contents.Contents, Kept.{contents_of, policy_of_store}, declared.limits.Limits.Limits}
use Rattle.{cache_policy.specs.Policies.Policy, cache_store.specs.declared.parts.store.PartStore.PartStore}

-- each key with its parts, the most recently used first
abbrev pub parts_of : PartStore → Contents
parts_of store = contents_of store.store

-- how it decides
abbrev pub policy_of_parts : PartStore → Policy
policy_of_parts store = policy_of_store store.store

abbrev pub limits_of_parts : PartStore → Limits
limits_of_parts store = store.store.limits
