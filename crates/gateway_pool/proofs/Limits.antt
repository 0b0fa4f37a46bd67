-- How many connections an origin has.
use Rattle.std.proofs.Common.{◌≡◌, ◌⊎◌, ◌<◌, ◌≤◌, ◌∷◌, ◌++◌, ℕ, Bool, true, false, List, [], Option, Some, None, map}
use Rattle.std.proofs.Common.{refl, ap}
use Rattle.std.proofs.Common.{subst, sym, ◌∙◌, arith, inl, inr}
use Rattle.std.specs.Prelude.{◌==◌, ◌&&◌, MatchOption, length, count_by, nat_lt, not, if◌then◌else◌}
use Rattle.std.proofs.lemmas.Bool.{eqb-true}
use Rattle.gateway_pool.specs.declared.pool.{Change.Change, Change.TheVariants.{Lent, Opens, Kept}}
use Rattle.gateway_pool.specs.declared.pool.{ConnectionUse.ConnectionUse}
use Rattle.gateway_pool.specs.declared.pool.{ConnectionUse.TheVariants.{Opening, Busy, Idle}}
use Rattle.gateway_pool.specs.declared.pool.{Lease.TheVariants.{Reuse, Open, NoOrigin, Full}}
use Rattle.gateway_pool.specs.declared.pool.{PoolRules.PoolRules, PooledConnection.PooledConnection}
use Rattle.gateway_pool.specs.Choices.{idle_one}
use Rattle.gateway_pool.specs.Histories.{AreRight, IsRight, run}
use Rattle.gateway_pool.specs.Pools.{Event, Event.{Leased, Opened, FailedToOpen, Ended, Released, Gone, Finished}}
use Rattle.gateway_pool.specs.Pools.{PoolState, changed, changed_at, happens, is_idle, is_idle_at, is_named}
use Rattle.gateway_pool.specs.Pools.{is_used_at, may_keep, named, others, start, was_tried}
use Rattle.gateway_pool.proofs.Kept.{IsSound, Opens-idle, are_sound}
use Rattle.gateway_pool.proofs.Lists.{Each, Each-all, Each-any, Each-find, count_by-fewer, count_by-filter-le}
use Rattle.gateway_pool.proofs.Lists.{count_by-map-le, count_by-none, count_by-push, and-false, bit-one, bit-zero, room}

pub record IsWithin (rules : PoolRules) (xs : List PooledConnection) : Type 0 where
  pub once : (number : ℕ) → count_by (is_named number) xs ≤ 1
  pub used : (origin : ℕ) → count_by (is_used_at origin) xs ≤ rules.most
  pub idle : (origin : ℕ) → count_by (is_idle_at origin) xs ≤ rules.idle

-- a connection at an origin that is used so
abbrev is_at : (ConnectionUse → Bool) → ℕ → PooledConnection → Bool
is_at test origin c = (c.origin == origin) && test c.used

others-within : (rules : PoolRules) (number : ℕ) (xs : List PooledConnection) → IsWithin rules xs
    → IsWithin rules (others number xs)
others-within rules number xs within = record {
  once = λ n. omega (arith, count_by-filter-le (is_named n) (λ c. not (is_named number c)) xs, within.once n);
  used = λ o. omega (arith, count_by-filter-le (is_used_at o) (λ c. not (is_named number c)) xs, within.used o);
  idle = λ o. omega (arith, count_by-filter-le (is_idle_at o) (λ c. not (is_named number c)) xs, within.idle o);
}

and-right : (a b c : Bool) → (b ≡ true → c ≡ true) → (a && b) ≡ true → (a && c) ≡ true
and-right true b c h e = h e
and-right false b c h e = e

module _ (change : Change) (number : ℕ) where
  named-same : (n : ℕ) (xs : List PooledConnection)
      → count_by (is_named n) (map (changed_at change number) xs) ≤ count_by (is_named n) xs
  named-same n xs = count_by-fewer (is_named n) (changed_at change number) xs
      (Each-any (λ c e. (elim (c.number == number) as (λ b.
      is_named n (if b then record c { used = changed change c.used } else c) ≡ true → (c.number == n) ≡ true) [
        | true ↦ λ e. e
        | false ↦ λ e. e
      ]) e) xs)

  -- a use that the change makes nowhere
  shrinks : (test : ConnectionUse → Bool) → ((u : ConnectionUse) → test (changed change u) ≡ true → test u ≡ true)
      → (origin : ℕ) (xs : List PooledConnection)
      → count_by (is_at test origin) (map (changed_at change number) xs) ≤ count_by (is_at test origin) xs
  shrinks test h origin xs = count_by-fewer (is_at test origin) (changed_at change number) xs
      (Each-any (λ c e. (elim (c.number == number) as (λ b.
      is_at test origin (if b then record c { used = changed change c.used } else c) ≡ true
      → is_at test origin c ≡ true) [
        | true ↦ λ e. and-right (c.origin == origin) (test (changed change c.used)) (test c.used) (h c.used) e
        | false ↦ λ e. e
      ]) e) xs)

  -- a use that it makes at one origin, where there is room
  grows : (test : ConnectionUse → Bool) (at limit : ℕ) (xs : List PooledConnection)
      → Each (λ c. (c.number == number) ≡ true → c.origin ≡ at) xs → count_by (is_named number) xs ≤ 1
      → count_by (is_at test at) xs < limit → (origin : ℕ) → count_by (is_at test origin) xs ≤ limit
      → count_by (is_at test origin) (map (changed_at change number) xs) ≤ limit
  grows test at limit xs same once space origin within =
      (elim (at == origin) as (λ b. (at == origin) ≡ b
      → count_by (is_at test origin) (map (changed_at change number) xs) ≤ limit) [
        | true ↦ λ e. subst (λ o. count_by (is_at test o) (map (changed_at change number) xs) ≤ limit)
            (eqb-true at origin e)
            (omega (
              arith,
              once,
              space,
              count_by-map-le (is_at test at) (is_named number) (changed_at change number) xs
                  (Each-any (λ c e. (elim (c.number == number) as (λ b.
                  is_at test at (if b then record c { used = changed change c.used } else c) ≡ true
                  → (is_at test at c ≡ true) ⊎ (b ≡ true)) [
                    | true ↦ λ e. inr refl
                    | false ↦ λ e. inl e
                  ]) e) xs),
            ))
        | false ↦ λ e. omega (
          arith,
          within,
          count_by-fewer (is_at test origin) (changed_at change number) xs
              (Each-all (λ c here was. (elim (c.number == number) as (λ b. (b ≡ true → c.origin ≡ at)
              → is_at test origin (if b then record c { used = changed change c.used } else c) ≡ true
              → is_at test origin c ≡ true) [
                | true ↦ λ here was. absurd (grind (arith, here refl, was, e))
                | false ↦ λ here was. was
              ]) here was) xs same),
        )
      ]) refl

Lent-idle : (request : ℕ) (u : ConnectionUse) → is_idle (changed (Lent request) u) ≡ true → is_idle u ≡ true
Lent-idle request Idle e = refl
Lent-idle request (Opening other) e = e
Lent-idle request (Busy other) e = e

Kept-used : (u : ConnectionUse) → not (is_idle (changed Kept u)) ≡ true → not (is_idle u) ≡ true
Kept-used Idle e = e
Kept-used (Opening other) e = e
Kept-used (Busy other) e = refl

-- connections with one number are to one origin
same-origin : (events : List Event) (next : ℕ) (one : PooledConnection) (number : ℕ) (xs : List PooledConnection)
    → IsSound events next one → one.number ≡ number → Each (IsSound events next) xs
    → Each (λ c. (c.number == number) ≡ true → c.origin ≡ one.origin) xs
same-origin events next one number xs known is all =
    Each-all (λ c sound e. grind (arith, eqb-true c.number number e, is, sound.begun, known.begun)) xs all

below-fresh : (events : List Event) (next : ℕ) (xs : List PooledConnection) → Each (IsSound events next) xs
    → count_by (is_named next) xs ≡ 0
below-fresh events next xs all =
    count_by-none (is_named next) xs (Each-all (λ c sound. grind (arith, sound.below)) xs all)

module _ (events : List Event) (pool : PoolState) (all : Each (IsSound events pool.next) pool.connections)
    (within : IsWithin pool.rules pool.connections) where
  lends : (request number origin : ℕ) → count_by (is_used_at origin) pool.connections < pool.rules.most
      → (one : Option PooledConnection) → idle_one origin pool ≡ one → MatchOption one ⊥ (λ c. c.number ≡ number)
      → IsWithin pool.rules (map (changed_at (Lent request) number) pool.connections)
  lends request number origin space None e is = absurd is
  lends request number origin space (Some c) e is =
      let s = Each-find (IsSound events pool.next) (is_idle_at origin) pool.connections all c e in
      let at : c.origin ≡ origin = grind (arith, s.1, eqb-true c.origin origin) in
      let same = subst (λ o. Each (λ x. (x.number == number) ≡ true → x.origin ≡ o) pool.connections) at
      (same-origin events pool.next c number pool.connections s.0 is all) in
      record {
        once = λ n. omega (arith, within.once n, named-same (Lent request) number n pool.connections);
        used = λ o. grows (Lent request) number (λ u. not (is_idle u)) origin pool.rules.most pool.connections same
            (within.once number) space o (within.used o);
        idle = λ o. omega (
          arith,
          within.idle o,
          shrinks (Lent request) number is_idle (Lent-idle request) o pool.connections,
        );
      }

  begins : (request origin : ℕ) → count_by (is_used_at origin) pool.connections < pool.rules.most
      → IsWithin pool.rules
      (pool.connections ++ record { number = pool.next; origin = origin; used = Opening request } ∷ [])
  begins request origin space =
      let made : PooledConnection = record { number = pool.next; origin = origin; used = Opening request } in
      record {
        once = λ n. (elim (pool.next == n) as (λ b. (pool.next == n) ≡ b
            → count_by (is_named n) (pool.connections ++ made ∷ []) ≤ 1) [
              | true ↦ λ e. (let none = subst (λ m. count_by (is_named m) pool.connections ≤ 0) (eqb-true pool.next n e)
                  (omega (arith, below-fresh events pool.next pool.connections all)) in
                  omega (arith, none, bit-one (is_named n made), count_by-push (is_named n) pool.connections made))
              | false ↦ λ e. omega (
                arith,
                within.once n,
                bit-zero (is_named n made) e,
                count_by-push (is_named n) pool.connections made,
              )
            ]) refl;
        used = λ o. (elim (origin == o) as (λ b. (origin == o) ≡ b
            → count_by (is_used_at o) (pool.connections ++ made ∷ []) ≤ pool.rules.most) [
              | true ↦ λ e. (let free = subst (λ m. count_by (is_used_at m) pool.connections < pool.rules.most)
                  (eqb-true origin o e) space in
                  omega (arith, free, bit-one (is_used_at o made), count_by-push (is_used_at o) pool.connections made))
              | false ↦ λ e. omega (
                arith,
                within.used o,
                bit-zero (is_used_at o made) (ap (λ b. b && true) e),
                count_by-push (is_used_at o) pool.connections made,
              )
            ]) refl;
        idle = λ o. omega (
          arith,
          within.idle o,
          bit-zero (is_idle_at o made) (and-false (origin == o)),
          count_by-push (is_idle_at o) pool.connections made,
        );
      }

  keeps : (number : ℕ) (one : Option PooledConnection) → named number pool ≡ one → may_keep one pool ≡ true
      → IsWithin pool.rules (map (changed_at Kept number) pool.connections)
  keeps number None e may = absurd (grind (arith, may))
  keeps number (Some c) e may =
      let s = Each-find (IsSound events pool.next) (is_named number) pool.connections all c e in
      let same = same-origin events pool.next c number pool.connections s.0 (eqb-true c.number number s.1) all in
      record {
        once = λ n. omega (arith, within.once n, named-same Kept number n pool.connections);
        used = λ o. omega (
          arith,
          within.used o,
          shrinks Kept number (λ u. not (is_idle u)) Kept-used o pool.connections,
        );
        idle = λ o. grows Kept number is_idle c.origin pool.rules.idle pool.connections same (within.once number)
            (grind (arith, may)) o (within.idle o);
      }

  opens : (number : ℕ) → IsWithin pool.rules (map (changed_at Opens number) pool.connections)
  opens number = record {
    once = λ n. omega (arith, within.once n, named-same Opens number n pool.connections);
    used = λ o. omega (
      arith,
      within.used o,
      shrinks Opens number (λ u. not (is_idle u))
          (λ u e. ap not (sym (Opens-idle u)) ∙ e) o pool.connections,
    );
    idle = λ o. omega (
      arith,
      within.idle o,
      shrinks Opens number is_idle (λ u e. sym (Opens-idle u) ∙ e) o pool.connections,
    );
  }

pub IsWithin-step : (event : Event) (events : List Event) (pool : PoolState) → IsRight event pool
    → Each (IsSound events pool.next) pool.connections → IsWithin pool.rules pool.connections
    → IsWithin (happens event pool).rules (happens event pool).connections
IsWithin-step (Leased request now key (Reuse number origin)) events pool right all within =
    lends events pool all within request number origin
    (room (nat_lt origin (length pool.origins)) (not (was_tried request origin pool))
    (count_by (is_used_at origin) pool.connections) pool.rules.most right.0.0) (idle_one origin pool) refl right.2
IsWithin-step (Leased request now key (Open number origin)) events pool right all within =
    subst (λ n. IsWithin pool.rules
    (pool.connections ++ record { number = n; origin = origin; used = Opening request } ∷ [])) (sym right.2)
    (begins events pool all within request origin
    (room (nat_lt origin (length pool.origins)) (not (was_tried request origin pool))
    (count_by (is_used_at origin) pool.connections) pool.rules.most right.0.0))
IsWithin-step (Leased request now key NoOrigin) events pool right all within = within
IsWithin-step (Leased request now key Full) events pool right all within = within
IsWithin-step (Opened number) events pool right all within = opens events pool all within number
IsWithin-step (FailedToOpen number now) events pool right all within =
    others-within pool.rules number pool.connections within
IsWithin-step (Ended number) events pool right all within = others-within pool.rules number pool.connections within
IsWithin-step (Released number) events pool right all within =
    (elim (may_keep (named number pool) pool) as (λ b. may_keep (named number pool) pool ≡ b → IsWithin pool.rules
    (if b then map (changed_at Kept number) pool.connections else others number pool.connections)) [
      | true ↦ λ e. keeps events pool all within number (named number pool) refl e
      | false ↦ λ e. others-within pool.rules number pool.connections within
    ]) refl
IsWithin-step (Gone number) events pool right all within = others-within pool.rules number pool.connections within
IsWithin-step (Finished request) events pool right all within = within

happens-rules : (event : Event) (pool : PoolState) → (happens event pool).rules ≡ pool.rules
happens-rules (Leased request now key (Reuse number origin)) pool = refl
happens-rules (Leased request now key (Open number origin)) pool = refl
happens-rules (Leased request now key lease) pool = refl
happens-rules event pool = refl

pub run-rules : (events : List Event) (pool : PoolState) → (run events pool).rules ≡ pool.rules
run-rules [] pool = refl
run-rules (event ∷ events) pool = happens-rules event (run events pool) ∙ run-rules events pool

pub are_within : (rules : PoolRules) (origins : ℕ) (events : List Event) → AreRight events (start rules origins)
    → IsWithin (run events (start rules origins)).rules (run events (start rules origins)).connections
are_within rules origins [] right = record { once = λ n. omega arith; used = λ o. omega arith; idle = λ o. omega arith }
are_within rules origins (event ∷ events) right =
    IsWithin-step event events (run events (start rules origins)) right.0 (are_sound rules origins events right.1)
    (are_within rules origins events right.1)
