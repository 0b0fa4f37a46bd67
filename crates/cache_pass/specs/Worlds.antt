-- Passes over one cache, whose steps interleave.
use Rattle.{cache_rules.specs.declared.storing.Reception.Reception, std.specs.declared.alloc.AllocError.AllocError}
use Rattle.std.specs.Prelude.{[], ⊤, ◌++◌, ◌∷◌, ◌≡◌, ◌⊎◌, List, map, Option, Result, ℕ}
use Rattle.cache_pass.specs.Effects.{Does, kept_of, Settings, settings_of}
use Rattle.cache_pass.specs.declared.{cache.Cache.Cache, replying.{First.First, Reply.Reply}, revalidating.Next.Next}
use Rattle.cache_pass.specs.declared.pass.{Pass.Pass, Phase.{Phase, TheVariants.{Asking, Began}}}
use Rattle.cache_pass.specs.{Passes.key_of, Steps.{HasBegun, HasCome, HasEnded, HasFailed}}
use Rattle.cache_store.specs.History.{Call, Call.{Arrived, Described, Looked, Validated}, History, Removes}
use Rattle.{cache_store.specs.Kept.contents_of, http_header.specs.{FieldValue.FieldValue, HeaderMap.Entries}}

-- ---- what happens

-- a pass, by its name, asks the origin, or makes a call of the store
pub data Event : Type 0 where
  Asks : ℕ → Event
  Calls : ℕ → Call → Event

-- what happened, the latest first
abbrev pub Log : Type 0
Log = List Event

-- the calls of the store
abbrev pub calls_of : Log → History
calls_of [] = []
calls_of (Asks pass ∷ log) = calls_of log
calls_of (Calls pass call ∷ log) = call ∷ calls_of log

-- the call stores or updates responses under the target
abbrev pub StoresAt : List ℕ → Call → Type 0
StoresAt target (Arrived other came reception) = other ≡ target
StoresAt target (Validated other request update exchange) = other ≡ target
StoresAt target (Described other request head exchange) = other ≡ target
StoresAt target other = ⊥

-- the pass has asked, and nothing since then removed the target
abbrev pub IsCurrent : ℕ → List ℕ → Log → Type 0
IsCurrent pass target [] = ⊥
IsCurrent pass target (Asks other ∷ log) = (other ≡ pass) ⊎ IsCurrent pass target log
IsCurrent pass target (Calls other call ∷ log) = (¬ (Removes target call)) × IsCurrent pass target log

-- what stores or updates responses was asked since their target was last removed (RFC 9111, section 4.4)
abbrev pub AreCurrent : Log → Type 0
AreCurrent [] = ⊤
AreCurrent (Asks pass ∷ log) = AreCurrent log
AreCurrent (Calls pass call ∷ log) =
    ((target : List ℕ) → StoresAt target call → IsCurrent pass target log) × AreCurrent log

-- ---- who acts

-- the cache, each pass by its name, and what happened
pub record World : Type 0 where
  pub cache : Cache
  pub passes : ℕ → Pass
  pub log : Log

-- a step of a pass, and what it answered unless memory ran out, or a call by no pass
pub data Deed : Type 0 where
  Begins : ℕ → Result First AllocError → Deed
  Comes : ℕ → Entries FieldValue → ℕ → Result Next AllocError → Deed
  Fails : ℕ → Result (Option Reply) AllocError → Deed
  Ends : List ℕ → Reception → ℕ → Result (Option ℕ) AllocError → Deed
  Apart : Call → Deed

-- the call stores and updates nothing: it looks up or removes
abbrev pub IsApart : Call → Type 0
IsApart call = (target : List ℕ) → ¬ (StoresAt target call)

-- The step is as its contract says, and makes these calls.
abbrev pub IsStep : Deed → Pass → Cache → Pass → Cache → History → Type 0
IsStep (Begins now first) old before new after calls =
    HasBegun old before now new after first × (calls ≡ Looked (key_of old) ∷ [])
IsStep (Comes status response now next) old before new after calls =
    (come : HasCome old before status response now new after next) × (calls ≡ come.calls)
IsStep (Fails now found) old before new after calls =
    HasFailed old before now new after found × (calls ≡ Looked (key_of old) ∷ [])
IsStep (Ends content reception now number) old before new after calls =
    (ended : HasEnded old before content reception now new after number) × (calls ≡ ended.calls)
IsStep (Apart call) old before new after calls =
    IsApart call × Does (settings_of before) call (kept_of before) (kept_of after)
    × (settings_of after ≡ settings_of before) × (new ≡ old) × (calls ≡ call ∷ [])

-- a pass that asks after its step asked in it
abbrev pub asks_of : ℕ → Phase → Log
asks_of pass (Asking asked) = Asks pass ∷ []
asks_of pass other = []

-- ... and by no call apart
abbrev pub asked_in : Deed → ℕ → Phase → Log
asked_in (Apart call) pass phase = []
asked_in deed pass phase = asks_of pass phase

-- a step of the pass with this name; no other pass changes
pub record Acts (pass : ℕ) (deed : Deed) (old new : World) : Type 0 where
  pub calls : History
  pub step : IsStep deed (old.passes pass) old.cache (new.passes pass) new.cache calls
  pub others : (other : ℕ) → (other ≡ pass) ⊎ (new.passes other ≡ old.passes other)
  pub log : new.log ≡ asked_in deed pass (new.passes pass).phase ++ (map (Calls pass) calls ++ old.log)

-- nothing is stored, and nothing has happened
pub record IsNew (settings : Settings) (world : World) : Type 0 where
  pub empty : contents_of world.cache.store ≡ []
  pub settings_are : settings_of world.cache ≡ settings
  pub began : (pass : ℕ) → (world.passes pass).phase ≡ Began
  pub silent : world.log ≡ []

-- this comes of a new world by any steps of any passes and calls apart, in any order
abbrev pub Reaches : Settings → List (ℕ × Deed) → World → Type 0
Reaches settings [] world = IsNew settings world
Reaches settings (last ∷ deeds) world =
    (before : World) × Reaches settings deeds before × Acts last.0 last.1 before world
