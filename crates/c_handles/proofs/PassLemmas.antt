-- A pass that has begun, and for which memory ran out then.
use Rattle.std.proofs.Common.{◌≡◌, ◌⊎◌, ◌∙◌, ℕ, List, Option, Some, None, Ok, Err, ap, inl, inr, refl, subst, sym}
use Rattle.std.specs.{Prelude.{Result, string_bytes}, declared.alloc.AllocError.AllocError}
use Rattle.{cache_store.specs.History.Call.Looked, cache_pass.specs.Effects.{Does, kept_of, settings_of}}
use Rattle.{cache_pass.specs.{Passes.key_of, Queue.Enters}, c_parts.specs.declared.status.Failure.TheVariants.Memory}
use Rattle.c_pass.specs.{Steps.{Begins, FailsBegin, IsBegun, IsLookedUp, IsStarted, IsWaiting}, Telling.waiting}
use Rattle.c_pass.specs.{Waiting.{IsAhead, IsPlaced}, declared.held.{Place.Place, Shared.Shared, Stepped.Stepped}}
use Rattle.c_pass.specs.declared.{reading.CacheRequest.CacheRequest, telling.PassFacts.PassFacts}
use Rattle.c_handles.specs.{Passes.{BeginsThrough, OnCache}, declared.held.Held.Held}
use Rattle.c_handles.specs.declared.held.Held.TheVariants as held

-- its target was looked up
lost_begin : (request : CacheRequest) (now : ℕ) (old new : Shared) (stepped : Stepped) (facts : PassFacts)
    → IsBegun request now old new stepped facts → FailsBegin request now old new Memory
lost_begin request now old new stepped facts begun =
    inr (refl, (begun.fields, begun.is_request), inr (looked begun.begins))
  where
    entered : (place : Place) → key_of stepped.pass ≡ request.target.now
        → IsPlaced stepped.pass now old.queue new.queue place → (new.queue ≡ old.queue)
        ⊎ ((number : Result (Option ℕ) AllocError) × Enters request.target.now now old.queue new.queue number)
    entered place key (inl (apart, same, is)) = inl same
    entered place key (inr (collapses, (number, enters, is))) =
        inr (Ok number, subst (λ (target : List ℕ). Enters target now old.queue new.queue (Ok number)) key enters)

    looked : (IsAhead old.queue stepped.pass now None × IsStarted now old new begun.pass stepped None facts)
        ⊎ (IsWaiting now old new begun.pass stepped × (facts ≡ waiting)) → IsLookedUp request now old new
    looked (inl (alone, started)) = record {
      does = subst (λ (key : List ℕ). Does (settings_of old.cache) (Looked key) (kept_of old.cache) (kept_of new.cache))
          begun.key started.begun.does;
      settings = started.begun.settings;
      queue = entered stepped.place (ap string_bytes started.begun.same.key ∙ begun.key) started.place;
      beside = started.beside;
    }
    looked (inr (waits, told)) = record {
      does = subst (λ (key : List ℕ). Does (settings_of old.cache) (Looked key) (kept_of old.cache) (kept_of new.cache))
          begun.key waits.begun.does;
      settings = waits.begun.settings;
      queue = inl waits.queue;
      beside = waits.beside;
    }

lost_in : (request : CacheRequest) (now : ℕ) (old new : Held) (stepped : Stepped) (facts : PassFacts)
    → OnCache (Begins request now) (Some old) (Some new) (Ok (stepped, facts))
    → BeginsThrough request now (Some old) (Some new) None None (Err Memory)
lost_in request now (held.Cache shared) (held.Cache kept) stepped facts is =
    lost_begin request now shared kept stepped facts is
lost_in request now (held.Cache shared) (held.Section map) stepped facts is = is
lost_in request now (held.Cache shared) (held.Policy policy) stepped facts is = is
lost_in request now (held.Cache shared) (held.Resource resource) stepped facts is = is
lost_in request now (held.Cache shared) (held.Pass passed) stepped facts is = is
lost_in request now (held.Cache shared) (held.Connection connection) stepped facts is = is
lost_in request now (held.Cache shared) (held.Files files) stepped facts is = is
lost_in request now (held.Cache shared) (held.Gate gate) stepped facts is = is
lost_in request now (held.Cache shared) (held.Tunnel tunnel) stepped facts is = is
lost_in request now (held.Cache shared) (held.GateRules rules) stepped facts is = is
lost_in request now (held.Cache shared) (held.GateOrigin origin) stepped facts is = is
lost_in request now (held.Cache shared) (held.GatePool pool) stepped facts is = is
lost_in request now (held.Section map) new stepped facts is = absurd (cc is.0)
lost_in request now (held.Policy policy) new stepped facts is = absurd (cc is.0)
lost_in request now (held.Resource resource) new stepped facts is = absurd (cc is.0)
lost_in request now (held.Pass passed) new stepped facts is = absurd (cc is.0)
lost_in request now (held.Connection connection) new stepped facts is = absurd (cc is.0)
lost_in request now (held.Files files) new stepped facts is = absurd (cc is.0)
lost_in request now (held.Gate gate) new stepped facts is = absurd (cc is.0)
lost_in request now (held.Tunnel tunnel) new stepped facts is = absurd (cc is.0)
lost_in request now (held.GateRules rules) new stepped facts is = absurd (cc is.0)
lost_in request now (held.GateOrigin origin) new stepped facts is = absurd (cc is.0)
lost_in request now (held.GatePool pool) new stepped facts is = absurd (cc is.0)

-- through the handles
pub lost_through : (request : CacheRequest) (now : ℕ) (old new before after : Option Held) (had has : Held)
    (stepped : Stepped) (facts : PassFacts) → old ≡ Some had → new ≡ Some has → before ≡ None → after ≡ None
    → OnCache (Begins request now) (Some had) (Some has) (Ok (stepped, facts))
    → BeginsThrough request now old new before after (Err Memory)
lost_through request now old new before after had has stepped facts old_is new_is before_is after_is is = subst
    (λ (it : Option Held). BeginsThrough request now it new before after (Err Memory)) (sym old_is)
    (subst (λ (it : Option Held). BeginsThrough request now (Some had) it before after (Err Memory)) (sym new_is)
    (subst (λ (it : Option Held). BeginsThrough request now (Some had) (Some has) it after (Err Memory)) (sym before_is)
    (subst (λ (it : Option Held). BeginsThrough request now (Some had) (Some has) None it (Err Memory)) (sym after_is)
    (lost_in request now had has stepped facts is))))
