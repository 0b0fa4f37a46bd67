-- How often a request is repeated.
use Rattle.std.proofs.Common.{◌≡◌, ◌+◌, ◌∷◌, ◌++◌, ℕ, Bool, true, false, List, [], Option, Some, None, refl, ap, sym}
use Rattle.std.proofs.Common.{◌∙◌, arith}
use Rattle.std.specs.Prelude.{◌==◌, filter, find, is_some, not, if◌then◌else◌}
use Rattle.gateway_pool.specs.declared.pool.{Lease.TheVariants.{Reuse, Open, NoOrigin, Full}}
use Rattle.gateway_pool.specs.declared.pool.{PoolRules.PoolRules}
use Rattle.gateway_pool.specs.Histories.{is_for, repeats, repeats_with, run}
use Rattle.gateway_pool.specs.Pools.{Event, Event.{Leased, Opened, FailedToOpen, Ended, Released, Gone, Finished}}
use Rattle.gateway_pool.specs.Pools.{PoolState, goes_again, goes_again_once, happens, is_request, named, repeated_with}
use Rattle.gateway_pool.specs.Pools.{request_on}
use Rattle.gateway_pool.specs.Pools.{start, was_repeated}
use Rattle.gateway_pool.proofs.Lists.{find-filter_none, find-filter_same, find-push}
use Rattle.std.proofs.lemmas.Bool.{eqb-true, not-true}

abbrev is_in : ℕ → List ℕ → Bool
is_in request repeated = is_some (find (is_request request) repeated)

-- what goes again wasn't repeated before
abbrev IsNew : PoolState → Option ℕ → Type 0
IsNew pool None = Unit {0}
IsNew pool (Some request) = was_repeated request pool ≡ false

goes-new : (one : Option ℕ) (pool : PoolState) → IsNew pool (goes_again_once one pool)
goes-new None pool = tt
goes-new (Some request) pool =
    (elim (was_repeated request pool) as (λ b. was_repeated request pool ≡ b
    → IsNew pool (if b then None else Some request)) [
      | true ↦ λ e. tt
      | false ↦ λ e. e
    ]) refl

repeating : (request before : ℕ) (pool : PoolState) (again : Option ℕ) → IsNew pool again
    → before ≡ (if is_in request pool.repeated then 1 else 0)
    → (if is_for request again then before + 1 else before)
    ≡ (if is_in request (repeated_with again pool.repeated) then 1 else 0)
repeating request before pool None new is = is
repeating request before pool (Some other) new is =
    (elim (other == request) as (λ b. (other == request) ≡ b → (if b then before + 1 else before)
    ≡ (if is_in request (pool.repeated ++ other ∷ []) then 1 else 0)) [
      | true ↦ λ e. grind (
        arith,
        e,
        eqb-true other request e,
        new,
        is,
        find-push (is_request request) pool.repeated other,
      )
      | false ↦ λ e. grind (arith, e, is, find-push (is_request request) pool.repeated other)
    ]) refl

finishing : (request before over : ℕ) (repeated : List ℕ) → before ≡ (if is_in request repeated then 1 else 0)
    → (if over == request then 0 else before)
    ≡ (if is_in request (filter (λ other. not (is_request over other)) repeated) then 1 else 0)
finishing request before over repeated is =
    (elim (over == request) as (λ b. (over == request) ≡ b → (if b then 0 else before)
    ≡ (if is_in request (filter (λ other. not (is_request over other)) repeated) then 1 else 0)) [
      | true ↦ λ e. sym (ap (λ b. if b then 1 else 0) (find-filter_none (is_request request)
          (λ other. not (is_request over other))
          (λ x h. grind (arith, eqb-true over request e, not-true (x == over) h)) repeated))
      | false ↦ λ e. is ∙ sym (ap (λ b. if b then 1 else 0) (find-filter_same (is_request request)
          (λ other. not (is_request over other)) (λ x h. grind (arith, e, h, eqb-true x over)) repeated))
    ]) refl

step : (request : ℕ) (event : Event) (pool : PoolState) (before : ℕ)
    → before ≡ (if was_repeated request pool then 1 else 0)
    → repeats_with request event pool before ≡ (if was_repeated request (happens event pool) then 1 else 0)
step request (Leased r now key (Reuse number origin)) pool before is = is
step request (Leased r now key (Open number origin)) pool before is = is
step request (Leased r now key NoOrigin) pool before is = is
step request (Leased r now key Full) pool before is = is
step request (Opened number) pool before is = is
step request (FailedToOpen number now) pool before is = is
step request (Ended number) pool before is =
    repeating request before pool (goes_again number pool) (goes-new (request_on (named number pool)) pool) is
step request (Released number) pool before is = is
step request (Gone number) pool before is = is
step request (Finished over) pool before is = finishing request before over pool.repeated is

pub repeats_are : (rules : PoolRules) (origins : ℕ) (events : List Event) (request : ℕ)
    → repeats request events (start rules origins)
    ≡ (if was_repeated request (run events (start rules origins)) then 1 else 0)
repeats_are rules origins [] request = refl
repeats_are rules origins (event ∷ events) request =
    step request event (run events (start rules origins)) (repeats request events (start rules origins))
    (repeats_are rules origins events request)
