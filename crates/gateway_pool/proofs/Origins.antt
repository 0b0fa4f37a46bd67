-- The health of origins, and their choice.
use Rattle.std.proofs.Common.{◌≡◌, ◌⊎◌, ◌+◌, ◌-◌, ◌^◌, ◌<◌, ◌≤◌, ◌∷◌, ℕ, Bool, true, false, List, [], Option, Some}
use Rattle.std.proofs.Common.{None, refl, ap}
use Rattle.std.proofs.Common.{sym, ◌∙◌, arith, inl, inr, length}
use Rattle.std.specs.Prelude.{◌==◌, ◌&&◌, IsTrue, count_by, min, nat_le, nat_lt, not, slice_index_or, slice_set}
use Rattle.std.specs.Prelude.{if◌then◌else◌}
use Rattle.std.proofs.lemmas.{Bool.eqb-true, Grind.common_steps}
use Rattle.gateway_pool.specs.declared.pool.{Health.Health, PoolRules.PoolRules}
use Rattle.gateway_pool.specs.declared.pool.{Lease.TheVariants.{Reuse, Open}}
use Rattle.gateway_pool.specs.declared.pool.{PooledConnection.PooledConnection}
use Rattle.gateway_pool.specs.Choices.{IsChosen, cost, hash_of, is_down_at, may_take, rank}
use Rattle.gateway_pool.specs.Histories.{failures_in_turn, is_healthy, is_opening_at, last_failed_at, results}
use Rattle.gateway_pool.specs.Histories.{results_with}
use Rattle.gateway_pool.specs.Histories.{run}
use Rattle.gateway_pool.specs.Pools.{Event, Event.{Leased, Opened, FailedToOpen}}
use Rattle.gateway_pool.specs.Pools.{PoolState, after_failure, after_opening, failed_once_more, fresh_health, happens}
use Rattle.gateway_pool.specs.Pools.{is_opening, is_used_at, named, start, was_tried}
use Rattle.gateway_pool.proofs.Lists.{room}

-- ---- health

abbrev pub health_by : List (Option ℕ) → Health
health_by results =
    record { failures = min (failures_in_turn results) (2 ^ 64 - 1); failed_at = last_failed_at results }

abbrev pub at : ℕ → List Health → Health
at origin origins = slice_index_or origins origin fresh_health

set-at : (origins : List Health) (place origin : ℕ) (health : Health) → origin < length origins
    → at origin (slice_set origins place health) ≡ (if place == origin then health else at origin origins)
set-at origins place origin health low =
    (elim (place == origin) as (λ b. (place == origin) ≡ b
    → at origin (slice_set origins place health) ≡ (if b then health else at origin origins)) [
      | true ↦ λ e. grind (arith, common_steps, low, eqb-true place origin e)
      | false ↦ λ e. grind (arith, common_steps, low, e)
    ]) refl

opening : (origin : ℕ) (origins : List Health) (rs : List (Option ℕ)) (one : Option PooledConnection)
    → origin < length origins → at origin origins ≡ health_by rs
    → at origin (after_opening one origins) ≡ health_by (if is_opening_at origin one then None ∷ rs else rs)
opening origin origins rs None low is = is
opening origin origins rs (Some c) low is =
    elim (is_opening c.used) as (λ b. at origin (if b then slice_set origins c.origin fresh_health else origins)
    ≡ health_by (if b && (c.origin == origin) then None ∷ rs else rs)) [
      | true ↦ set-at origins c.origin origin fresh_health low
          ∙ (elim (c.origin == origin) as (λ b. (if b then fresh_health else at origin origins)
          ≡ health_by (if b then None ∷ rs else rs)) [ true ↦ refl | false ↦ is ])
      | false ↦ is
    ]

once-more : (now : ℕ) (rs : List (Option ℕ)) → failed_once_more now (health_by rs) ≡ health_by (Some now ∷ rs)
once-more now rs =
    let P : ℕ → Health = λ n. record { failures = n; failed_at = now } in
    ap P (omega arith)

failing : (origin now : ℕ) (origins : List Health) (rs : List (Option ℕ)) (one : Option PooledConnection)
    → origin < length origins → at origin origins ≡ health_by rs
    → at origin (after_failure now one origins) ≡ health_by (if is_opening_at origin one then Some now ∷ rs else rs)
failing origin now origins rs None low is = is
failing origin now origins rs (Some c) low is =
    elim (is_opening c.used) as (λ b. at origin
    (if b then slice_set origins c.origin (failed_once_more now (at c.origin origins)) else origins)
    ≡ health_by (if b && (c.origin == origin) then Some now ∷ rs else rs)) [
      | true ↦ set-at origins c.origin origin (failed_once_more now (at c.origin origins)) low
          ∙ (elim (c.origin == origin) as (λ b. (c.origin == origin) ≡ b
          → (if b then failed_once_more now (at c.origin origins) else at origin origins)
          ≡ health_by (if b then Some now ∷ rs else rs)) [
            | true ↦ λ e. ap (λ o. failed_once_more now (at o origins)) (eqb-true c.origin origin e)
                ∙ ap (failed_once_more now) is ∙ once-more now rs
            | false ↦ λ e. is
          ]) refl
      | false ↦ is
    ]

length-opening : (one : Option PooledConnection) (origins : List Health)
    → length (after_opening one origins) ≡ length origins
length-opening None origins = refl
length-opening (Some c) origins = grind (arith, common_steps)

length-failure : (now : ℕ) (one : Option PooledConnection) (origins : List Health)
    → length (after_failure now one origins) ≡ length origins
length-failure now None origins = refl
length-failure now (Some c) origins = grind (arith, common_steps)

length-step : (event : Event) (pool : PoolState) → length (happens event pool).origins ≡ length pool.origins
length-step (Leased request now key (Reuse number origin)) pool = refl
length-step (Leased request now key (Open number origin)) pool = refl
length-step (Leased request now key lease) pool = refl
length-step (Opened number) pool = length-opening (named number pool) pool.origins
length-step (FailedToOpen number now) pool = length-failure now (named number pool) pool.origins
length-step event pool = refl

length-run : (events : List Event) (pool : PoolState) → length (run events pool).origins ≡ length pool.origins
length-run [] pool = refl
length-run (event ∷ events) pool = length-step event (run events pool) ∙ length-run events pool

health-step : (origin : ℕ) (event : Event) (pool : PoolState) (rs : List (Option ℕ)) → origin < length pool.origins
    → at origin pool.origins ≡ health_by rs
    → at origin (happens event pool).origins ≡ health_by (results_with origin event pool rs)
health-step origin (Leased request now key (Reuse number place)) pool rs low is = is
health-step origin (Leased request now key (Open number place)) pool rs low is = is
health-step origin (Leased request now key lease) pool rs low is = is
health-step origin (Opened number) pool rs low is = opening origin pool.origins rs (named number pool) low is
health-step origin (FailedToOpen number now) pool rs low is =
    failing origin now pool.origins rs (named number pool) low is
health-step origin event pool rs low is = is

health_of-run : (rules : PoolRules) (origins : ℕ) (events : List Event) (origin : ℕ) → origin < origins
    → at origin (run events (start rules origins)).origins ≡ health_by (results origin events (start rules origins))
health_of-run rules origins [] origin low = grind (arith, common_steps, low)
health_of-run rules origins (event ∷ events) origin low =
    health-step origin event (run events (start rules origins)) (results origin events (start rules origins))
    (grind (arith, common_steps, low, length-run events (start rules origins)))
    (health_of-run rules origins events origin low)

within-64 : (n m : ℕ) → n < 2 ^ 64 → nat_le n (min m (2 ^ 64 - 1)) ≡ nat_le n m
within-64 n m low = grind (arith, low)

pub is_down-results : (rules : PoolRules) (origins : ℕ) (events : List Event) (now origin : ℕ)
    → origin < origins → rules.failures < 2 ^ 64 → (run events (start rules origins)).rules ≡ rules
    → is_down_at now origin (run events (start rules origins))
    ≡ (nat_le rules.failures (failures_in_turn (results origin events (start rules origins)))
    && nat_lt (now - last_failed_at (results origin events (start rules origins))) rules.pause)
is_down-results rules origins events now origin low small same =
    let pool = run events (start rules origins) in
    let rs = results origin events (start rules origins) in
    ap (λ (r : PoolRules). nat_le r.failures (at origin pool.origins).failures
    && nat_lt (now - (at origin pool.origins).failed_at) r.pause) same
    ∙ ap (λ (h : Health). nat_le rules.failures h.failures && nat_lt (now - h.failed_at) rules.pause)
    (health_of-run rules origins events origin low)
    ∙ ap (λ b. b && nat_lt (now - last_failed_at rs) rules.pause) (within-64 rules.failures (failures_in_turn rs) small)

-- ---- choice

cost-small : (key origin : ℕ) (pool : PoolState) → count_by (is_used_at origin) pool.connections < 2 ^ 64
    → cost key origin pool < 2 ^ 64
cost-small key origin pool small = elim pool.rules.hashes as (λ b. (if b then 2 ^ 64 - 1 - hash_of key origin
    else count_by (is_used_at origin) pool.connections) < 2 ^ 64) [ true ↦ omega arith | false ↦ small ]

rank-down : (now key origin : ℕ) (pool : PoolState) → is_down_at now origin pool ≡ true
    → rank now key pool origin ≡ 2 ^ 64 + cost key origin pool
rank-down now key origin pool e = ap (λ b. (if b then 2 ^ 64 else 0) + cost key origin pool) e

rank-up : (now key origin : ℕ) (pool : PoolState) → is_down_at now origin pool ≡ false
    → rank now key pool origin ≡ cost key origin pool
rank-up now key origin pool e = ap (λ b. (if b then 2 ^ 64 else 0) + cost key origin pool) e ∙ omega arith

last-down : (big r s c d x y : ℕ) → (r < s) ⊎ ((r ≡ s) × (x ≤ y)) → r ≡ big + c → s ≡ d → d < big → ⊥
last-down big r s c d x y (inl lt) e f g = grind (arith, lt, e, f, g)
last-down big r s c d x y (inr eq) e f g = grind (arith, eq.0, e, f, g)

pub chosen-down : (pool : PoolState) (request now key origin other : ℕ) → pool.rules.most < 2 ^ 64
    → IsChosen request now key pool origin → IsTrue (is_down_at now origin pool) → IsTrue (may_take request pool other)
    → IsTrue (is_down_at now other pool)
chosen-down pool request now key origin other most chosen down may =
    (elim (is_down_at now other pool) as (λ b. is_down_at now other pool ≡ b → b ≡ true) [
      | true ↦ λ e. refl
      | false ↦ λ e. absurd (last-down (2 ^ 64) (rank now key pool origin) (rank now key pool other)
          (cost key origin pool) (cost key other pool) origin other (chosen.1 other may)
          (rank-down now key origin pool down) (rank-up now key other pool e)
          (cost-small key other pool (let few = room (nat_lt other (length pool.origins))
          (not (was_tried request other pool)) (count_by (is_used_at other) pool.connections) pool.rules.most may in
          omega (arith, few, most))))
    ]) refl

hash-cost : (key origin : ℕ) (pool : PoolState) → pool.rules.hashes ≡ true
    → cost key origin pool ≡ 2 ^ 64 - 1 - hash_of key origin
hash-cost key origin pool e =
    ap (λ b. if b then 2 ^ 64 - 1 - hash_of key origin else count_by (is_used_at origin) pool.connections) e

and-0 : (a b : Bool) → (a && b) ≡ true → a ≡ true
and-0 true b e = refl
and-0 false b e = e

and-1 : (a b : Bool) → (a && not b) ≡ true → b ≡ false
and-1 true true e = sym e
and-1 true false e = refl
and-1 false b e = absurd (grind (arith, e))

healthy : (a b : Bool) → a ≡ true → b ≡ false → (a && not b) ≡ true
healthy true false e f = refl
healthy true true e f = sym f
healthy false b e f = absurd (grind (arith, e))

first-same : (c d o p : ℕ) → (c < d) ⊎ ((c ≡ d) × (o ≤ p)) → (d < c) ⊎ ((d ≡ c) × (p ≤ o)) → p ≡ o
first-same c d o p one two = grind (arith, one, two)

pub hashed-same : (pool other : PoolState) (request now key origin another later place : ℕ)
    → pool.rules.hashes ≡ true → other.rules.hashes ≡ true
    → IsChosen request now key pool origin → IsChosen another later key other place
    → ((o : ℕ) → IsTrue (is_healthy another later other o) → IsTrue (is_healthy request now pool o))
    → IsTrue (is_healthy another later other origin) → place ≡ origin
hashed-same pool other request now key origin another later place hashes too chosen elsewhere sub well =
    let up = and-1 (may_take another other origin) (is_down_at later origin other) well in
    let here = rank-up later key origin other up ∙ hash-cost key origin other too in
    let first = elsewhere.1 origin (and-0 (may_take another other origin) (not (is_down_at later origin other)) well) in
    let same = sub origin well in
    let was = rank-up now key origin pool (and-1 (may_take request pool origin) (is_down_at now origin pool) same)
    ∙ hash-cost key origin pool hashes in
    (elim (is_down_at later place other) as (λ b. is_down_at later place other ≡ b → place ≡ origin) [
      | true ↦ λ e. absurd (grind (arith, first, here, rank-down later key place other e))
      | false ↦ λ e.
          let there = rank-up later key place other e ∙ hash-cost key place other too in
          let known = sub place (healthy (may_take another other place) (is_down_at later place other) elsewhere.0 e) in
          let then' = rank-up now key place pool (and-1 (may_take request pool place) (is_down_at now place pool) known)
          ∙ hash-cost key place pool hashes in
          let second = chosen.1 place (and-0 (may_take request pool place) (not (is_down_at now place pool)) known) in
          first-same (2 ^ 64 - 1 - hash_of key origin) (2 ^ 64 - 1 - hash_of key place) origin place
          (grind (arith, second, was, then')) (grind (arith, first, here, there))
    ]) refl
