-- How long a response is fresh (RFC 9111, section 4.2).
use Rattle.std.specs.Prelude.{◌≡◌, ◌⊎◌, ℕ, ◌-◌, ◌/◌, Bool, true, false, IsTrue, nat_eq, List, [], ◌∷◌, Option, Some}
use Rattle.{std.specs.{Prelude.{None, MatchOption, codes}, List.list_any}, headers_map.specs.LineMap.LineMap}
use Rattle.cache_fields.specs.{Directives.directed, Fields.{IsPresent, capped, date_in, dated}}
use Rattle.cache_fields.specs.declared.{directives.Directives.Directives, governing.Governing.Governing, kind.Kind.Kind}
use Rattle.cache_fields.specs.declared.kind.Kind.TheVariants.{Shared, Private}

-- `s-maxage` counts in a shared cache alone (section 5.2.2.10)
abbrev pub shared_age : Kind → Directives → Option ℕ
shared_age Shared directives = directives.s_max_age
shared_age Private directives = None

-- Cache-Control says that the response becomes stale at this age: by `s-maxage`, or by `max-age` if `s-maxage` doesn't
-- count
abbrev pub StatesAge : Kind → Directives → ℕ → Type 0
StatesAge kind directives seconds = (shared_age kind directives ≡ Some seconds)
    ⊎ ((shared_age kind directives ≡ None) × (directives.max_age ≡ Some seconds))

-- it says nothing of that
abbrev pub StatesNoAge : Kind → Directives → Type 0
StatesNoAge kind directives = (shared_age kind directives ≡ None) × (directives.max_age ≡ None)

-- Expires lies so many seconds after Date: 0 if it isn't later, or if it isn't one valid date (section 5.3)
abbrev pub ExpiresAfter : ℕ → LineMap → ℕ → Type 0
ExpiresAfter received response seconds =
    MatchOption (date_in received (codes "expires") response) (seconds ≡ 0)
    (λ expires. seconds ≡ expires - dated received response)

-- Expires is there, and counts
abbrev pub HasExpires : Bool → LineMap → Type 0
HasExpires true response = IsPresent (codes "expires") response
HasExpires false response = ⊥

-- Which facts give each lifetime (section 4.2.1), for a response that came at that time, by what governs it: so many
-- seconds by directives, or by Expires if they say nothing; or none is stated.
abbrev pub HasLifetimeBy : Kind → ℕ → Governing → LineMap → Option ℕ → Type 0
HasLifetimeBy kind received by response (Some seconds) =
    StatesAge kind by.directives seconds
    ⊎ (StatesNoAge kind by.directives × HasExpires by.by_expires response × ExpiresAfter received response seconds)
HasLifetimeBy kind received by response None =
    StatesNoAge kind by.directives × ¬ (HasExpires by.by_expires response)

-- what governs a response in a cache without targeted fields: its Cache-Control, and Expires
abbrev pub by_itself : LineMap → Governing
by_itself response = record { directives = directed response; by_expires = true }

-- the same by Cache-Control and Expires
abbrev pub HasLifetime : Kind → ℕ → LineMap → Option ℕ → Type 0
HasLifetime kind received response stated = HasLifetimeBy kind received (by_itself response) response stated

-- the statuses that are heuristically cacheable (RFC 9110, section 15.1)
abbrev pub heuristic_codes : List ℕ
heuristic_codes = 200 ∷ 203 ∷ 204 ∷ 206 ∷ 300 ∷ 301 ∷ 308 ∷ 404 ∷ 405 ∷ 410 ∷ 414 ∷ 501 ∷ []

unfoldable pub is_heuristic : ℕ → Bool
is_heuristic status = list_any (λ code. nat_eq code status) heuristic_codes

abbrev pub IsHeuristic : ℕ → Type 0
IsHeuristic status = IsTrue (is_heuristic status)

-- a cache may guess (section 4.2.2): no lifetime is stated, and the status is heuristically cacheable or the response
-- is `public`
abbrev pub MayGuess : Kind → ℕ → ℕ → Governing → LineMap → Type 0
MayGuess kind status received by response = HasLifetimeBy kind received by response None
    × (IsHeuristic status ⊎ (by.directives.public ≡ true))

-- Which facts give each guess: a tenth of the time from Last-Modified to Date; or a cache may not guess, or knows no
-- last modification.
abbrev pub HasHeuristicBy : Kind → ℕ → ℕ → Governing → LineMap → Option ℕ → Type 0
HasHeuristicBy kind status received by response (Some seconds) =
    MayGuess kind status received by response
    × ((modified : ℕ) × (date_in received (codes "last-modified") response ≡ Some modified)
    × (seconds ≡ capped (dated received response - modified) / 10))
HasHeuristicBy kind status received by response None =
    MayGuess kind status received by response → date_in received (codes "last-modified") response ≡ None

-- the same by Cache-Control and Expires
abbrev pub HasHeuristic : Kind → ℕ → ℕ → LineMap → Option ℕ → Type 0
HasHeuristic kind status received response guess =
    HasHeuristicBy kind status received (by_itself response) response guess
