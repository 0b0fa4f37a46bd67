-- What is known of each connection of a pool, by what happened.
use Rattle.std.proofs.Common.{◌≡◌, ◌+◌, ◌<◌, ◌≤◌, ◌∷◌, ◌++◌, ℕ, Bool, true, false, List, [], Option, Some, None, map}
use Rattle.std.proofs.Common.{refl, ap}
use Rattle.std.proofs.Common.{subst, sym, ◌∙◌, arith}
use Rattle.std.specs.Prelude.{◌==◌, IsSome, MatchOption, cond, find, is_some, not, if◌then◌else◌}
use Rattle.std.proofs.lemmas.Bool.{eqb-true, not-true}
use Rattle.gateway_pool.specs.declared.pool.{Change.TheVariants.{Lent, Opens, Kept}}
use Rattle.gateway_pool.specs.declared.pool.{ConnectionUse.ConnectionUse}
use Rattle.gateway_pool.specs.declared.pool.{ConnectionUse.TheVariants.{Opening, Busy, Idle}}
use Rattle.gateway_pool.specs.declared.pool.{Lease.TheVariants.{Reuse, Open, NoOrigin, Full}}
use Rattle.gateway_pool.specs.declared.pool.{PoolRules.PoolRules, PooledConnection.PooledConnection}
use Rattle.gateway_pool.specs.Choices.{idle_one}
use Rattle.gateway_pool.specs.Histories.{AreRight, IsKept, IsRight, is_about, is_opening_of, run}
use Rattle.gateway_pool.specs.Pools.{Event, Event.{Leased, Opened, FailedToOpen, Ended, Released, Gone, Finished}}
use Rattle.gateway_pool.specs.Pools.{PoolState, changed, changed_at, happens, is_idle, is_idle_at, is_named, is_opening}
use Rattle.gateway_pool.specs.Pools.{may_keep, named, others, start}
use Rattle.gateway_pool.proofs.Lists.{Each, Each-all, Each-filter, Each-find, Each-map, Each-push}

abbrev pub start_of : ℕ → Event → Option ℕ → Option ℕ
start_of number (Leased request now key (Open leased origin)) before = if number == leased then Some origin else before
start_of number event before = before

-- the origin that a connection was begun to
abbrev pub begun_at : ℕ → List Event → Option ℕ
begun_at number [] = None
begun_at number (event ∷ earlier) = start_of number event (begun_at number earlier)

pub record IsSound (events : List Event) (next : ℕ) (c : PooledConnection) : Type 0 where
  pub below : c.number < next
  pub begun : begun_at c.number events ≡ Some c.origin
  pub kept : is_idle c.used ≡ true → find (is_about c.number) events ≡ Some (Released c.number)
  pub opened : is_opening c.used ≡ false → IsSome (find (is_opening_of c.number) events)

start_of-other : (number : ℕ) (event : Event) (before : Option ℕ) → is_about number event ≡ false
    → start_of number event before ≡ before
start_of-other number (Leased request now key (Open leased origin)) before other =
    ap (λ b. if b then Some origin else before) other
start_of-other number event before other = refl

later : {X : Type 0} (b : Bool) (x : X) (o : Option X) → IsSome o → IsSome (cond b (Some x) o)
later true x o some = refl
later false x o some = some

IsSound-other : (event : Event) (events : List Event) (next next' : ℕ) (c : PooledConnection)
    → is_about c.number event ≡ false → next ≤ next' → IsSound events next c → IsSound (event ∷ events) next' c
IsSound-other event events next next' c other le sound = record {
  below = omega (arith, sound.below, le);
  begun = start_of-other c.number event (begun_at c.number events) other ∙ sound.begun;
  kept = λ idle. ap (λ b. cond b (Some event) (find (is_about c.number) events)) other ∙ sound.kept idle;
  opened = λ was. later (is_opening_of c.number event) event (find (is_opening_of c.number) events) (sound.opened was);
}

-- ---- changes

Lent-busy : (request : ℕ) (used : ConnectionUse) → is_idle (changed (Lent request) used) ≡ false
Lent-busy request Idle = refl
Lent-busy request (Opening other) = refl
Lent-busy request (Busy other) = refl

Lent-opening : (request : ℕ) (used : ConnectionUse) → is_opening (changed (Lent request) used) ≡ is_opening used
Lent-opening request Idle = refl
Lent-opening request (Opening other) = refl
Lent-opening request (Busy other) = refl

Kept-opening : (used : ConnectionUse) → is_opening (changed Kept used) ≡ is_opening used
Kept-opening Idle = refl
Kept-opening (Opening other) = refl
Kept-opening (Busy other) = refl

pub Opens-idle : (used : ConnectionUse) → is_idle (changed Opens used) ≡ is_idle used
Opens-idle Idle = refl
Opens-idle (Opening other) = refl
Opens-idle (Busy other) = refl

-- ---- each event

module _ (events : List Event) (next : ℕ) where
  lent : (request now key number origin : ℕ) (c : PooledConnection) → IsSound events next c
      → IsSound (Leased request now key (Reuse number origin) ∷ events) next (changed_at (Lent request) number c)
  lent request now key number origin c sound =
      (elim (c.number == number) as (λ b. (c.number == number) ≡ b
      → IsSound (Leased request now key (Reuse number origin) ∷ events) next
      (if b then record c { used = changed (Lent request) c.used } else c)) [
        | true ↦ λ e. record {
          below = sound.below;
          begun = sound.begun;
          kept = λ idle. absurd (grind (arith, idle, Lent-busy request c.used));
          opened = λ was. sound.opened (sym (Lent-opening request c.used) ∙ was);
        }
        | false ↦ λ e. IsSound-other (Leased request now key (Reuse number origin)) events next next c e (omega arith)
            sound
      ]) refl

  opens : (number : ℕ) (c : PooledConnection) → IsSound events next c
      → IsSound (Opened number ∷ events) next (changed_at Opens number c)
  opens number c sound =
      (elim (c.number == number) as (λ b. (c.number == number) ≡ b
      → IsSound (Opened number ∷ events) next (if b then record c { used = changed Opens c.used } else c)) [
        | true ↦ λ e. record {
          below = sound.below;
          begun = sound.begun;
          kept = λ idle. sound.kept (sym (Opens-idle c.used) ∙ idle);
          opened = λ was. ap (λ b. is_some (cond b (Some (Opened number)) (find (is_opening_of c.number) events))) e;
        }
        | false ↦ λ e. IsSound-other (Opened number) events next next c refl (omega arith) sound
      ]) refl

  keeps : (number : ℕ) (c : PooledConnection) → IsSound events next c
      → IsSound (Released number ∷ events) next (changed_at Kept number c)
  keeps number c sound =
      (elim (c.number == number) as (λ b. (c.number == number) ≡ b
      → IsSound (Released number ∷ events) next (if b then record c { used = changed Kept c.used } else c)) [
        | true ↦ λ e. record {
          below = sound.below;
          begun = sound.begun;
          kept = λ idle. ap (λ b. cond b (Some (Released number)) (find (is_about c.number) events)) e
              ∙ ap (λ n. Some (Released n)) (sym (eqb-true c.number number e));
          opened = λ was. sound.opened (sym (Kept-opening c.used) ∙ was);
        }
        | false ↦ λ e. IsSound-other (Released number) events next next c e (omega arith) sound
      ]) refl

  -- an event about one connection, which goes
  goes : (event : Event) (number : ℕ) → ((other : ℕ) → is_about other event ≡ (other == number))
      → (xs : List PooledConnection) → Each (IsSound events next) xs
      → Each (IsSound (event ∷ events) next) (others number xs)
  goes event number about xs all =
      Each-filter (λ c. not (is_named number c))
      (λ c e sound. IsSound-other event events next next c (about c.number ∙ not-true (c.number == number) e)
      (omega arith) sound) xs all

  stays : (event : Event) → ((other : ℕ) → is_about other event ≡ false) → (xs : List PooledConnection)
      → Each (IsSound events next) xs → Each (IsSound (event ∷ events) next) xs
  stays event about xs all =
      Each-all (λ c sound. IsSound-other event events next next c (about c.number) (omega arith) sound) xs all

  begins : (request now key origin : ℕ) (xs : List PooledConnection) → Each (IsSound events next) xs
      → Each (IsSound (Leased request now key (Open next origin) ∷ events) (next + 1))
      (xs ++ record { number = next; origin = origin; used = Opening request } ∷ [])
  begins request now key origin xs all =
      Each-push (IsSound (Leased request now key (Open next origin) ∷ events) (next + 1)) xs
      (record { number = next; origin = origin; used = Opening request })
      (Each-all (λ c sound. IsSound-other (Leased request now key (Open next origin)) events next (next + 1) c
      (grind (arith, sound.below)) (omega arith) sound) xs all)
      (record {
        below = omega arith;
        begun = grind arith;
        kept = λ idle. absurd (grind (arith, idle));
        opened = λ was. absurd (grind (arith, was));
      })

pub IsSound-step : (event : Event) (events : List Event) (pool : PoolState) → IsRight event pool
    → Each (IsSound events pool.next) pool.connections
    → Each (IsSound (event ∷ events) (happens event pool).next) (happens event pool).connections
IsSound-step (Leased request now key (Reuse number origin)) events pool right all =
    Each-map (IsSound (Leased request now key (Reuse number origin) ∷ events) pool.next)
    (changed_at (Lent request) number) (lent events pool.next request now key number origin) pool.connections all
IsSound-step (Leased request now key (Open number origin)) events pool right all =
    subst (λ n. Each (IsSound (Leased request now key (Open n origin) ∷ events) (pool.next + 1))
    (pool.connections ++ record { number = n; origin = origin; used = Opening request } ∷ [])) (sym right.2)
    (begins events pool.next request now key origin pool.connections all)
IsSound-step (Leased request now key NoOrigin) events pool right all =
    stays events pool.next (Leased request now key NoOrigin) (λ other. refl) pool.connections all
IsSound-step (Leased request now key Full) events pool right all =
    stays events pool.next (Leased request now key Full) (λ other. refl) pool.connections all
IsSound-step (Opened number) events pool right all =
    Each-map (IsSound (Opened number ∷ events) pool.next) (changed_at Opens number) (opens events pool.next number)
    pool.connections all
IsSound-step (FailedToOpen number now) events pool right all =
    goes events pool.next (FailedToOpen number now) number (λ other. refl) pool.connections all
IsSound-step (Ended number) events pool right all =
    goes events pool.next (Ended number) number (λ other. refl) pool.connections all
IsSound-step (Released number) events pool right all =
    elim (may_keep (named number pool) pool) as (λ b. Each (IsSound (Released number ∷ events) pool.next)
    (if b then map (changed_at Kept number) pool.connections else others number pool.connections)) [
      | true ↦ Each-map (IsSound (Released number ∷ events) pool.next) (changed_at Kept number)
          (keeps events pool.next number) pool.connections all
      | false ↦ goes events pool.next (Released number) number (λ other. refl) pool.connections all
    ]
IsSound-step (Gone number) events pool right all =
    goes events pool.next (Gone number) number (λ other. refl) pool.connections all
IsSound-step (Finished request) events pool right all =
    stays events pool.next (Finished request) (λ other. refl) pool.connections all

pub are_sound : (rules : PoolRules) (origins : ℕ) (events : List Event) → AreRight events (start rules origins)
    → Each (IsSound events (run events (start rules origins)).next) (run events (start rules origins)).connections
are_sound rules origins [] right = tt
are_sound rules origins (event ∷ events) right =
    IsSound-step event events (run events (start rules origins)) right.0 (are_sound rules origins events right.1)

idle-opening : (used : ConnectionUse) → is_idle used ≡ true → is_opening used ≡ false
idle-opening Idle e = refl
idle-opening (Opening request) e = absurd (grind (arith, e))
idle-opening (Busy request) e = refl

pub leased-kept : (events : List Event) (next : ℕ) (pool : PoolState) (number origin : ℕ)
    → Each (IsSound events next) pool.connections → (one : Option PooledConnection) → idle_one origin pool ≡ one
    → MatchOption one ⊥ (λ c. c.number ≡ number) → IsKept number events
leased-kept events next pool number origin all None e is = absurd is
leased-kept events next pool number origin all (Some c) e is =
    let s = Each-find (IsSound events next) (is_idle_at origin) pool.connections all c e in
    let idle : is_idle c.used ≡ true = grind (arith, s.1) in
    subst (λ n. IsKept n events) is
    (record { opened = s.0.opened (idle-opening c.used idle); since = s.0.kept idle })
