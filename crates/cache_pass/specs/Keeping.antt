-- What is stored of a response that passed on (RFC 9111, sections 3, 4.3.5 and 4.4).
use Rattle.std.specs.Prelude.{[], ◌<◌, ◌∷◌, ◌≡◌, ◌⊎◌, codes, Err, List, None, Ok, Option, Result, Some, ℕ}
use Rattle.{headers.specs.{LineMap.LineMap, Typed.HasLine}, std.specs.declared.alloc.AllocError.AllocError}
use Rattle.cache_policy.specs.{declared.Kind.TheVariants.Shared, Policies.Policy, Requests.Request}
use Rattle.cache_rules.specs.Selection.{IsAt, IsCandidate, IsSomewhere}
use Rattle.cache_rules.specs.{Stored.{fields_of_stored, made_at, request_of_stored}, Storing.IsStored}
use Rattle.cache_rules.specs.declared.{stored.StoredResponse.StoredResponse, storing.Reception.TheVariants.Complete}
use Rattle.cache_store.specs.Changes.{FitsAlone, IsFront, IsInserted, IsStoredAs, IsTooLarge, IsTooSmallToStore}
use Rattle.cache_store.specs.{Changes.IsToStore, Contents.{responses_at, size_at, without}}
use Rattle.cache_store.specs.{History.{Call.{Arrived, Described}, History}, Parts.Combining.exchange_of}
use Rattle.cache_pass.specs.{Effects.{DoAll, Does, Kept, Settings}, Removals.IsOutdated}

-- a response is to be stored once all of it has come, and in a shared cache sets no cookie
pub record IsWanted (policy : Policy) (request : Request) (status : ℕ) (response : LineMap) : Type 0 where
  pub stored : IsStored policy request status response Complete
  pub cookie : policy.kind ≡ Shared → ¬ (HasLine (response (codes "set-cookie")))

-- The stored response could answer the same request, and is more recent: by Date, and if both are of one second, by the
-- time of the request.
pub record IsNewer (came stored : StoredResponse) : Type 0 where
  pub matches : IsCandidate (request_of_stored came) stored
  pub later : (made_at came < made_at stored) ⊎ ((made_at came ≡ made_at stored) × (came.requested < stored.requested))

-- A newer one is stored that its request matches. It isn't stored then, since a cache uses the most recent of those
-- that match (section 4).
abbrev pub IsLate : List StoredResponse → StoredResponse → Type 0
IsLate responses came = IsSomewhere (IsAt (IsNewer came) responses)

-- it is a 200 to HEAD
abbrev pub IsDescription : StoredResponse → Type 0
IsDescription came = (came.method ≡ codes "HEAD") × (came.status ≡ 200)

-- the target was removed since the clock showed this, or what is stored for the request is newer
abbrev pub IsPast : List ℕ → StoredResponse → ℕ → Kept → Type 0
IsPast key came clock old = IsOutdated old.removals key clock ⊎ IsLate (responses_at key old.contents) came

module _ (settings : Settings) (key : List ℕ) (came : StoredResponse) where
  -- a 200 to HEAD updates the stored responses to GET (section 4.3.5), and another response none
  abbrev pub AreDescribing : History → Type 0
  AreDescribing calls =
      (IsDescription came
      × (calls ≡ Described key (request_of_stored came) (fields_of_stored came) (exchange_of came) ∷ []))
      ⊎ ((¬ (IsDescription came)) × (calls ≡ []))

  -- nothing is stored that wasn't: an error leaves all, or some other targets
  abbrev pub IsLeft : Kept → Kept → Type 0
  IsLeft old new = (new.contents ≡ old.contents) ⊎ IsFront (without key old.contents) new.contents

  -- It is stored under the number. Or it may not be, or is larger than the limits, and nothing changes. Or nothing is
  -- added: its map has no room for the fields that change, or memory runs out for what is to be stored.
  abbrev pub IsNumbered : Kept → Kept → Result (Option ℕ) AllocError → Type 0
  IsNumbered old new (Ok (Some number)) =
      (stored : StoredResponse) × IsToStore settings.policy came Complete × IsStoredAs came stored
      × (stored.number ≡ number) × IsInserted settings.limits key stored old.contents new.contents
  IsNumbered old new (Ok None) =
      (((¬ (IsToStore settings.policy came Complete)) ⊎ IsTooLarge settings.limits key came)
      × (new.contents ≡ old.contents)) ⊎ (IsTooSmallToStore came × IsLeft old new)
  IsNumbered old new (Err error) =
      IsToStore settings.policy came Complete × FitsAlone settings.limits 1 (size_at key came) × IsLeft old new

  -- the calls that store it, if it may be stored
  pub record IsStoring (calls : History) (old new : Kept) (number : Result (Option ℕ) AllocError) : Type 0 where
    pub before : History
    pub describing : AreDescribing before
    pub described : Kept
    pub describes : DoAll settings before old described
    pub stores : Does settings (Arrived key came Complete) described new
    pub named : IsNumbered described new number
    pub all : calls ≡ Arrived key came Complete ∷ before

  -- If it comes too late, nothing happens; else it is stored, if it may be.
  abbrev pub IsKept : ℕ → Kept → Kept → History → Result (Option ℕ) AllocError → Type 0
  IsKept clock old new calls number =
      (IsPast key came clock old × (calls ≡ []) × (new ≡ old) × (number ≡ Ok None))
      ⊎ ((¬ (IsPast key came clock old)) × IsStoring calls old new number)
