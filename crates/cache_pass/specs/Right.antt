-- What may be sent to a client (RFC 9111, section 4; RFC 5861).
use Rattle.cache_pass.specs.{Keeping.IsLate, Worlds.{calls_of, Deed, Deed.{Begins, Comes, Ends, Fails}, World}}
use Rattle.cache_pass.specs.declared.{cache.Cache.Cache, pass.Phase.TheVariants.Passing, replying.Reply.Reply}
use Rattle.cache_pass.specs.{declared.pass.{Asked.Asked, Pass.Pass}, Effects.{Settings, stored_at}, Replies.IsReplyTo}
use Rattle.{cache_pass.specs.Passes.{asked_of, IsReceived, key_of, request_of_pass}, cache_rules.specs.Errors.IsFailure}
use Rattle.cache_rules.specs.{Conditions.IsStoredAnswer, Freshening.IsFreshened, Selection.IsCandidate}
use Rattle.cache_rules.specs.declared.{freshening.Exchange.Exchange, stored.StoredResponse.StoredResponse}
use Rattle.{cache_rules.specs.Stored.{fields_of_stored, request_of_stored}, headers.specs.LineMap.{LineMap, lines_at}}
use Rattle.{cache_policy.specs.Decisions.MayServeOnError, http_header.specs.{FieldValue.FieldValue, HeaderMap.Entries}}
use Rattle.cache_policy.specs.{Decisions.IsGoodEnough, Policies.{asks, MayStoreUnder, tells}, Requests.Request}
use Rattle.cache_store.specs.Numbers.{numbered}
use Rattle.std.specs.Prelude.{⊤, ◌≡◌, ◌⊎◌, List, Ok, Some, true, ℕ}
use Rattle.cache_store.specs.{Changes.IsStoredAs, History.IsJustified, Lookups.{freshness_of, IsFreshFor}}
use Rattle.cache_pass.specs.declared.replying.First.TheVariants as first
use Rattle.cache_pass.specs.declared.revalidating.Next.TheVariants as next

module _ (settings : Settings) (request : Request) (now : ℕ) (stored : StoredResponse) where
  -- the response is fresh, or each directive that applies allows it stale (section 4.2.4)
  pub record IsGood : Type 0 where
    pub lifetime : ℕ
    pub fresh_for : IsFreshFor settings.policy settings.guess stored lifetime
    pub good : IsGoodEnough settings.policy.kind
        (asks settings.policy request.fields (fields_of_stored stored) (freshness_of lifetime stored now))
        (tells settings.policy (fields_of_stored stored)) (freshness_of lifetime stored now)

  -- it may be served since the origin failed now (RFC 5861, section 4)
  pub record IsGoodOnError : Type 0 where
    pub lifetime : ℕ
    pub fresh_for : IsFreshFor settings.policy settings.guess stored lifetime
    pub good : MayServeOnError settings.policy.kind
        (asks settings.policy request.fields (fields_of_stored stored) (freshness_of lifetime stored now))
        (tells settings.policy (fields_of_stored stored)) (freshness_of lifetime stored now)

-- a 304 with these fields, which answered this exchange, has updated a response to this one (section 4.3.4)
abbrev pub IsValidatedNow : LineMap → Exchange → StoredResponse → Type 0
IsValidatedNow update exchange stored = (old : StoredResponse) × IsFreshened old update exchange stored

module _ (settings : Settings) (world : World) (pass : Pass) (now : ℕ) where
  -- The reply shows a response that is stored under the target of the pass now; the calls so far justify that, so the
  -- origin sent its content for a request to this target; it may be stored; and it matches the request of this pass by
  -- method and Vary.
  pub record IsOfStored (reply : Reply) (stored : StoredResponse) : Type 0 where
    pub named : numbered reply.number (stored_at (key_of pass) world.cache) ≡ Some stored
    pub justified : IsJustified settings.policy (key_of pass) (calls_of world.log) stored
    pub may_be_stored : MayStoreUnder settings.policy (request_of_stored stored) stored.status (fields_of_stored stored)
    pub matches : IsCandidate (request_of_pass pass) stored
    pub shown : IsReplyTo (request_of_pass pass) now stored reply

  -- ... and it is fresh, or may be served stale
  abbrev pub IsRightReply : Reply → Type 0
  IsRightReply reply =
      (stored : StoredResponse) × IsOfStored reply stored × IsGood settings (request_of_pass pass) now stored

  -- ... or may be served since the origin failed
  abbrev pub IsRightOnError : Reply → Type 0
  IsRightOnError reply =
      (stored : StoredResponse) × IsOfStored reply stored
      × (IsGood settings (request_of_pass pass) now stored ⊎ IsGoodOnError settings (request_of_pass pass) now stored)

  -- ... or was validated now for this very request
  abbrev pub IsRightValidated : LineMap → Asked → Reply → Type 0
  IsRightValidated update asked reply =
      (stored : StoredResponse) × IsOfStored reply stored
      × IsValidatedNow update (record { requested = asked.requested; received = now }) stored

-- The response with the number is the one that passed on, as it came to this pass and as it is stored. None of those
-- that were stored and match its request is newer.
pub record IsLatest (pass : Pass) (before after : Cache) (content : List ℕ) (now number : ℕ) : Type 0 where
  pub asked : Asked
  pub status : ℕ
  pub response : Entries FieldValue
  pub passing : pass.phase ≡ Passing asked status response
  pub came : StoredResponse
  pub received : IsReceived pass asked.requested status response content now came
  pub stored : StoredResponse
  pub stored_as : IsStoredAs came stored
  pub named : numbered number (stored_at (key_of pass) after) ≡ Some stored
  pub latest : ¬ (IsLate (stored_at (key_of pass) before) came)

-- What a step answers is right for the pass. Nothing is said of an answer that names no stored response: its step says
-- when it comes.
abbrev pub IsRight : Settings → World → World → Pass → Deed → Type 0
IsRight settings before world pass (Begins now (Ok (first.Reply reply))) = IsRightReply settings world pass now reply
IsRight settings before world pass (Begins now (Ok (first.ReplyAndValidate reply))) =
    IsRightReply settings world pass now reply
IsRight settings before world pass (Comes status response now (Ok (next.Reply reply))) =
    ((status ≡ 304) × ((asked : Asked) × (asked_of pass.phase ≡ Some asked)
    × IsRightValidated settings world pass now (lines_at response) asked reply))
    ⊎ (IsFailure status × IsRightOnError settings world pass now reply)
IsRight settings before world pass (Comes status response now (Ok (next.Once fresh answer))) =
    (status ≡ 304) × ((asked : Asked) × (asked_of pass.phase ≡ Some asked)
    × ((old : StoredResponse) × IsJustified settings.policy (key_of pass) (calls_of before.log) old
    × IsCandidate (request_of_pass pass) old
    × IsFreshened old (lines_at response) (record { requested = asked.requested; received = now }) fresh
    × IsStoredAnswer now (request_of_pass pass) fresh true answer))
IsRight settings before world pass (Fails now (Ok (Some reply))) = IsRightOnError settings world pass now reply
IsRight settings before world pass (Ends content reception now (Ok (Some number))) =
    IsLatest pass before.cache world.cache content now number
IsRight settings before world pass other = ⊤
