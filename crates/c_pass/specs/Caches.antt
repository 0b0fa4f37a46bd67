-- Caches, as a caller hands them in.
use Rattle.std.{specs.Prelude.{◌≡◌, ⊤, ℕ, Bool, true, false, List, [], Result, Ok, Err}, specs.Str.IsUtf8}
use Rattle.cache_policy.{specs.Policies.{Policy, plain}, specs.declared.Kind.Kind}
use Rattle.cache_policy.specs.declared.Kind.TheVariants.{Shared as SharedKind, Private}
use Rattle.cache_store.specs.{History.Call.Removed, Kept.{contents_of, policy_of_store}, declared.limits.Limits.Limits}
use Rattle.cache_pass.specs.{Effects.{Does, kept_of, settings_of}, Removals.HasNone}
use Rattle.c_parts.specs.declared.{keys.HashKeys.HashKeys, status.Failure.{Failure, TheVariants.{Refused, Memory}}}
use Rattle.{c_parts.specs.declared.status.Failure.TheVariants.{Absent, TooLarge}, c_pass.specs.Names.AreNames}
use Rattle.c_pass.specs.{Names.names_in, Reading.FailsText, declared.held.Shared.Shared}
use Rattle.c_pass.specs.declared.opening.{CacheExtensions.CacheExtensions, CacheOptions.CacheOptions}

abbrev pub kind_of : Bool → Kind
kind_of true = SharedKind
kind_of false = Private

abbrev pub limits_of : CacheOptions → Limits
limits_of options =
    record { variants = options.variants; responses = options.responses; bytes = options.bytes }

-- the policy of a cache with these extensions
abbrev pub extended : CacheOptions → CacheExtensions → Policy
extended options extensions =
    record {
      kind = kind_of options.is_shared;
      immutable = extensions.immutable;
      targets = names_in extensions.targets.now;
    }

-- an empty cache, which decides by this policy; and for how many seconds requests wait
pub record IsNew (options : CacheOptions) (by : Policy) (wait : ℕ) (keys : HashKeys) (shared : Shared) : Type 0 where
  pub contents : contents_of shared.cache.store ≡ []
  pub policy : policy_of_store shared.cache.store ≡ by
  pub limits : shared.cache.store.limits ≡ limits_of options
  pub guess : shared.cache.guess ≡ options.guess
  pub removals : HasNone shared.cache.removals
  pub limit : shared.queue.limit ≡ wait
  pub nobody : shared.queue.entries.items ≡ []
  pub next : shared.queue.next ≡ 0
  pub keys_are : shared.keys ≡ keys
  pub most_is : shared.most ≡ options.bytes
  pub guess_is : shared.guess ≡ options.guess

-- it is made so, unless memory ran out
abbrev pub IsMade : (Shared → Type 0) → Result Shared Failure → Type 0
IsMade P (Ok shared) = P shared
IsMade P (Err failure) = failure ≡ Memory

abbrev pub IsPlain : CacheOptions → HashKeys → Result Shared Failure → Type 0
IsPlain options keys = IsMade (IsNew options (plain (kind_of options.is_shared)) 0 keys)

-- The same with extensions; `Refused` only if some line of theirs is no name of a field. Memory may run out for any.
abbrev pub IsExtended : CacheOptions → CacheExtensions → HashKeys → Result Shared Failure → Type 0
IsExtended options extensions keys (Ok shared) =
    AreNames extensions.targets.now × IsNew options (extended options extensions) extensions.wait keys shared
IsExtended options extensions keys (Err Refused) = ¬ (AreNames extensions.targets.now)
IsExtended options extensions keys (Err Memory) = ⊤
IsExtended options extensions keys (Err Absent) = ⊥
IsExtended options extensions keys (Err TooLarge) = ⊥

-- the keys, the limit and the longest guess stay as they were
pub record IsSameBeside (old new : Shared) : Type 0 where
  pub keys : new.keys ≡ old.keys
  pub most : new.most ≡ old.most
  pub guess : new.guess ≡ old.guess

-- what is stored under the target is removed, and the removal is noted
pub record IsRemoved (target : List ℕ) (old new : Shared) : Type 0 where
  pub text : IsUtf8 target
  pub does : Does (settings_of old.cache) (Removed target) (kept_of old.cache) (kept_of new.cache)
  pub settings : settings_of new.cache ≡ settings_of old.cache
  pub queue : new.queue ≡ old.queue
  pub beside : IsSameBeside old new

abbrev pub Removes : List ℕ → (old new : Shared) → Result (Unit {0}) Failure → Type 0
Removes target old new (Ok one) = IsRemoved target old new
Removes target old new (Err failure) = FailsText target failure × (new ≡ old)
