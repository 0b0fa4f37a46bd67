-- What a response that validates stored ones makes of them (RFC 9111, sections 4.3.4 and 4.3.5).
use Rattle.std.specs.{Prelude.{[], ◌++◌, ◌∷◌, ◌≡◌, ◌⊎◌, codes, List, None, Option, option_to_list, Some}, List.Contains}
use Rattle.{headers.specs.LineMap.{Field, LineMap}, cache_rules.specs.{Fields.IsTooSmallFor, Stored.fields_of_stored}}
use Rattle.cache_policy.specs.{Policies.Policy, Requests.Request, Updating.HasStrongTag}
use Rattle.cache_rules.specs.{Selection.{IsCandidate, IsSought}, Freshening.{IsFreshened, IsHeadOf, IsReusable}}
use Rattle.cache_rules.specs.declared.{freshening.Exchange.Exchange, stored.StoredResponse.StoredResponse}
use Rattle.cache_store.specs.declared.updating.By.{By, TheVariants.{Head, NotModified}}

-- What is left of stored responses, in their order, if this may become of each: a response in its place, or nothing.
abbrev pub AreLeft : (StoredResponse → Option StoredResponse → Type 0) → List StoredResponse → List StoredResponse
    → Type 0
AreLeft Becomes [] new = new ≡ []
AreLeft Becomes (one ∷ old) new = (fate : Option StoredResponse)
    × (rest : List StoredResponse) × Becomes one fate × AreLeft Becomes old rest × (new ≡ option_to_list fate ++ rest)

-- the map of one of the responses is too small for these fields
pub record IsOneTooSmallFor (responses : List StoredResponse) (fields : List Field) : Type 0 where
  pub stored : StoredResponse
  pub among : Contains responses stored
  pub small : IsTooSmallFor stored.response fields

-- A 304 to the request also updates a stored response that isn't the answer: it might have been the answer, and it has
-- the strong validator of the 304 (section 4.3.4).
pub record IsUpdatedToo (request : Request) (update : LineMap) (stored : StoredResponse) : Type 0 where
  pub strong : HasStrongTag update
  pub sought : IsSought request (Some update) stored

-- a stored response to GET that could have been chosen for the request, which is a HEAD (section 4.3.5)
pub record IsGetFor (request : Request) (stored : StoredResponse) : Type 0 where
  pub get : stored.method ≡ codes "GET"
  pub candidate : IsCandidate request stored

module _ (policy : Policy) (request : Request) (update : LineMap) (exchange : Exchange) (old : StoredResponse) where
  -- an updated response stays stored if it may be reused
  abbrev pub BecomesUpdated : Option StoredResponse → Type 0
  BecomesUpdated (Some new) =
      IsFreshened old update exchange new × IsReusable policy (fields_of_stored old) request update new
  BecomesUpdated None = (new : StoredResponse)
      × IsFreshened old update exchange new × ¬ (IsReusable policy (fields_of_stored old) request update new)

  -- what a 304 makes of a stored response that isn't the answer
  abbrev pub BecomesBeside : Option StoredResponse → Type 0
  BecomesBeside fate =
      (IsUpdatedToo request update old × BecomesUpdated fate)
      ⊎ ((¬ (IsUpdatedToo request update old)) × (fate ≡ Some old))

  -- What a 200 to HEAD makes of a stored response: one to GET that could have been chosen for the HEAD is updated if
  -- the HEAD is about it, and else goes.
  abbrev pub BecomesByHead : Option StoredResponse → Type 0
  BecomesByHead fate =
      (IsGetFor request old × IsHeadOf (fields_of_stored old) update × BecomesUpdated fate)
      ⊎ (IsGetFor request old × (¬ (IsHeadOf (fields_of_stored old) update)) × (fate ≡ None))
      ⊎ ((¬ (IsGetFor request old)) × (fate ≡ Some old))

  -- the same by the response that validates it
  abbrev pub Becomes : By → Option StoredResponse → Type 0
  Becomes NotModified fate = BecomesBeside fate
  Becomes Head fate = BecomesByHead fate
