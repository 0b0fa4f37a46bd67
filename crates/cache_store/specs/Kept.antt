-- What a store's fields are.
use Rattle.{cache_policy.specs.{declared.Kind.Kind, Policies.Policy}, cache_store.specs.Contents.{Contents, shown}}
use Rattle.cache_store.specs.declared.{making.Options.Options, store.Store.Store}

-- what a store has
abbrev pub contents_of : Store → Contents
contents_of store = shown store.targets.entries

-- how it decides
abbrev pub policy_of_store : Store → Policy
policy_of_store store = record { kind = store.kind; immutable = store.immutable; targets = store.targeted.items }

-- the policy of a cache of this kind with these options
abbrev pub policy_with : Kind → Options → Policy
policy_with kind options = record { kind = kind; immutable = options.immutable; targets = options.targets.items }
