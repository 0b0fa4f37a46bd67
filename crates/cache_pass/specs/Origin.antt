-- What a cache does with a response of the origin (RFC 9111, sections 4.3 and 4.4; RFC 5861, section 4).
use Rattle.std.specs.Prelude.{[], ◌∷◌, ◌≡◌, ◌⊎◌, Err, List, map, None, Ok, Result, Some, true, ℕ}
use Rattle.std.specs.{Bool.MatchBool, declared.alloc.AllocError.AllocError}
use Rattle.{cache_policy.specs.Requests.Request, headers.specs.LineMap.LineMap, url.specs.Parts.{Parts, serialize}}
use Rattle.cache_rules.specs.{declared.freshening.Exchange.Exchange, Errors.IsFailure, Invalidation.Invalidates}
use Rattle.cache_store.specs.{Contents.responses_at, History.{Call.{Looked, Validated}, History}, Named.AreNamed}
use Rattle.cache_pass.specs.{Answers.IsRevalidated, Effects.{Kept, removals, Settings}}
use Rattle.cache_pass.specs.{Keeping.IsWanted, Removals.IsOutdated, Replies.IsOnError}
use Rattle.cache_pass.specs.declared.{pass.Asked.Asked, revalidating.Next.{Next, TheVariants.{Ask, PassOn, Reply}}}

-- the response is to a request that validates, and says that what is stored is still good
abbrev pub IsValidation : Asked → ℕ → Type 0
IsValidation asked status = (asked.validates ≡ true) × (status ≡ 304)

-- These calls remove what a response to a method invalidates (section 4.4): the target, and those that the response
-- names, unless memory runs out for these.
abbrev pub IsInvalidation : List ℕ → List ℕ → ℕ → LineMap → History → Type 0
IsInvalidation key method status response calls =
    (Invalidates method status × ((named : List Parts) × (AreNamed key response named ⊎ (named ≡ []))
    × (calls ≡ removals (key ∷ map serialize named)))) ⊎ ((¬ (Invalidates method status)) × (calls ≡ []))

module _ (settings : Settings) (key : List ℕ) where
  module _ (request : Request) where
    -- the response is forwarded, and is kept if it is to be stored
    abbrev pub IsPassedOn : ℕ → LineMap → Result Next AllocError → Type 0
    IsPassedOn status response (Ok (PassOn kept)) =
        MatchBool kept (IsWanted settings.policy request status response)
        (¬ (IsWanted settings.policy request status response))
    IsPassedOn status response other = ⊥

    -- A response that says that the origin failed is replaced by what may be served now, or forwarded if nothing may
    -- be.
    abbrev pub IsFailing : ℕ → LineMap → ℕ → Kept → Result Next AllocError → Type 0
    IsFailing status response now new (Ok (Reply reply)) =
        IsOnError settings request now (responses_at key new.contents) (Ok (Some reply))
    IsFailing status response now new (Ok (PassOn kept)) =
        IsOnError settings request now (responses_at key new.contents) (Ok None)
        × IsPassedOn status response (Ok (PassOn kept))
    IsFailing status response now new (Err error) =
        IsOnError settings request now (responses_at key new.contents) (Err error)
    IsFailing status response now new other = ⊥

    module _ (asked : Asked) (status : ℕ) (response : LineMap) (now : ℕ) (old new : Kept) where
      abbrev pub exchange : Exchange
      exchange = record { requested = asked.requested; received = now }

      -- which facts give each answer, and by which calls of the store
      abbrev pub IsNext : History → Result Next AllocError → Type 0
      IsNext calls next =
          (IsValidation asked status × IsOutdated old.removals key asked.clock × (calls ≡ []) × (next ≡ Ok Ask))
          ⊎ (IsValidation asked status × (¬ (IsOutdated old.removals key asked.clock))
          × (calls ≡ Validated key request response exchange ∷ [])
          × IsRevalidated settings key request response exchange old new next)
          ⊎ ((¬ (IsValidation asked status)) × IsFailure status × (calls ≡ Looked key ∷ [])
          × IsFailing status response now new next) ⊎ ((¬ (IsValidation asked status)) × (¬ (IsFailure status))
          × IsInvalidation key request.method status response calls × IsPassedOn status response next)
