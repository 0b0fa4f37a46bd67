-- Runs that differ only in what the origin answered, where that isn't to be stored.
use Rattle.std.specs.{declared.alloc.AllocError.AllocError, Prelude.{[], ⊤, ◌↔◌, ◌∷◌, ◌≡◌, ◌≢◌, ◌⊎◌, List, Result, ℕ}}
use Rattle.http_header.specs.{FieldValue.FieldValue, HeaderMap.Entries}
use Rattle.{cache_policy.specs.Requests.{IsSafe, Request}, headers.specs.LineMap.{LineMap, lines_at}}
use Rattle.cache_pass.specs.{declared.revalidating.Next.Next, Effects.Settings, Keeping.IsWanted}
use Rattle.{cache_pass.specs.Worlds.{Deed, Deed.Comes}, cache_rules.specs.Errors.IsFailure}

module _ (settings : Settings) where
  -- The response isn't to be stored, and changes nothing that is: its request is safe (section 4.4), and it doesn't say
  -- that what is stored is still good.
  pub record IsUnstored (request : Request) (status : ℕ) (response : LineMap) : Type 0 where
    pub unwanted : ¬ (IsWanted settings.policy request status response)
    pub safe : IsSafe request.method
    pub unvalidated : status ≢ 304

  -- In each of these steps a response comes, at the same time, and is answered so. Neither is to be stored, and if one
  -- says that the origin failed, so does the other.
  pub record AreUnstored (request : Request) (one other : Deed) : Type 0 where
    pub now : ℕ
    pub next : Result Next AllocError
    pub status : ℕ
    pub response : Entries FieldValue
    pub comes : one ≡ Comes status response now next
    pub unstored : IsUnstored request status (lines_at response)
    pub other_status : ℕ
    pub other_response : Entries FieldValue
    pub other_comes : other ≡ Comes other_status other_response now next
    pub other_unstored : IsUnstored request other_status (lines_at other_response)
    pub failures : IsFailure status ↔ IsFailure other_status

  -- The steps of passes for these requests are the same, but for what comes of the origin that isn't to be stored.
  abbrev pub AreAlike : (ℕ → Request) → List (ℕ × Deed) → List (ℕ × Deed) → Type 0
  AreAlike requests [] [] = ⊤
  AreAlike requests [] (other ∷ others) = ⊥
  AreAlike requests (one ∷ ones) [] = ⊥
  AreAlike requests (one ∷ ones) (other ∷ others) =
      ((one ≡ other) ⊎ ((one.0 ≡ other.0) × AreUnstored (requests one.0) one.1 other.1)) × AreAlike requests ones others
