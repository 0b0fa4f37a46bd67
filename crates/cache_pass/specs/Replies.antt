-- What a request gets of a cache (RFC 9111, section 4; RFC 5861).
use Rattle.cache_policy.specs.{Decisions.AnswersUnstored, declared.decision.Decision.Decision, Requests.Request}
use Rattle.{headers.specs.LineMap.{field_of, fields_of}, std.specs.declared.alloc.AllocError.AllocError}
use Rattle.std.specs.Prelude.{◌≡◌, ◌⊎◌, Err, List, None, Ok, Option, Result, Some, true, ℕ}
use Rattle.cache_pass.specs.declared.replying.First.TheVariants.{Ask, Reply as Replies, ReplyAndValidate, Validate}
use Rattle.cache_pass.specs.{declared.replying.{First.{First, TheVariants.Unavailable}, Reply.Reply}, Effects.Settings}
use Rattle.cache_store.specs.Lookups.{age_of_stored, HasFields, IsAsked, IsFound, IsUnmatched}
use Rattle.cache_store.specs.{declared.lookup.Lookup.Lookup, Numbers.numbered}
use Rattle.cache_rules.specs.{Conditions.{IsForCache, IsStoredAnswer}, declared.stored.StoredResponse.StoredResponse}
use Rattle.cache_policy.specs.declared.decision.Decision.TheVariants as decisions
use Rattle.cache_store.specs.declared.lookup.Lookup.TheVariants as lookup

-- The reply shows the stored response, with its age, as it answers the client's own conditions and ranges (sections
-- 4.3.2 and 5.1).
pub record IsReplyTo (request : Request) (now : ℕ) (stored : StoredResponse) (reply : Reply) : Type 0 where
  pub number : reply.number ≡ stored.number
  pub answer : IsStoredAnswer now request stored true reply.answer
  pub age : field_of reply.age ≡ age_of_stored stored now

-- what is done with a request that no stored response answers (section 5.2.1.7)
abbrev pub IsAlone : Request → First → Type 0
IsAlone request Ask = AnswersUnstored request decisions.Fetch
IsAlone request Unavailable = AnswersUnstored request decisions.Unavailable
IsAlone request other = ⊥

-- the number of the response that a lookup serves, or lets serve on an error
abbrev pub number_on_error : Lookup → Option ℕ
number_on_error (lookup.Serve number age) = Some number
number_on_error (lookup.ServeAndRevalidate number age) = Some number
number_on_error (lookup.ValidateOrServe number fields) = Some number
number_on_error other = None

module _ (settings : Settings) (request : Request) (now : ℕ) (responses : List StoredResponse) where
  -- The reply shows the response that is selected for the request now, and this is decided about it now.
  pub record IsShown (decision : Decision) (reply : Reply) : Type 0 where
    pub place : ℕ
    pub found : IsFound settings.policy settings.guess request now responses decision place
    pub named : numbered reply.number responses ≡ Some found.selected.response
    pub evaluated : IsForCache request
    pub replies : IsReplyTo request now found.selected.response reply

  -- The request is as one that nothing is stored for: nothing is, or it has a condition that applies to an origin
  -- server alone.
  abbrev pub IsAsUnmatched : Type 0
  IsAsUnmatched = IsUnmatched settings.policy settings.guess request now responses ⊎ (¬ (IsForCache request))

  -- which facts give each answer
  abbrev pub IsFirst : First → Type 0
  IsFirst (Replies reply) = IsShown decisions.Serve reply ⊎ IsShown decisions.ServeStale reply
  IsFirst (ReplyAndValidate reply) = IsShown decisions.ServeAndRevalidate reply
  IsFirst Ask = AnswersUnstored request decisions.Fetch × IsAsUnmatched
  IsFirst (Validate fields) =
      IsForCache request × ((number : ℕ)
      × (IsAsked settings.policy settings.guess request now responses decisions.Revalidate number
      (fields_of fields.items)
      ⊎ IsAsked settings.policy settings.guess request now responses decisions.RevalidateOrServe number
      (fields_of fields.items)))
  IsFirst Unavailable =
      ((place : ℕ) × IsFound settings.policy settings.guess request now responses decisions.Unavailable place)
      ⊎ (AnswersUnstored request decisions.Unavailable × IsAsUnmatched)

  -- the same, unless memory runs out: only for an answer by what is stored
  abbrev pub IsFirstOf : Result First AllocError → Type 0
  IsFirstOf (Ok first) = IsFirst first
  IsFirstOf (Err error) = HasFields settings.policy settings.guess request now responses

  -- The origin failed. The response that is selected for the request now may be served: as it is, or since the origin
  -- failed (RFC 5861, section 4).
  abbrev pub IsShownOnError : Reply → Type 0
  IsShownOnError reply =
      (decision : Decision) × IsShown decision reply
      × ((decision ≡ decisions.Serve) ⊎ (decision ≡ decisions.ServeStale) ⊎ (decision ≡ decisions.ServeAndRevalidate)
      ⊎ (decision ≡ decisions.RevalidateOrServe))

  -- No stored response may be served on an error: none is selected, or it is to be validated without fail, or the
  -- request is answered by the origin alone.
  abbrev pub IsNoneOnError : Type 0
  IsNoneOnError =
      IsUnmatched settings.policy settings.guess request now responses ⊎ (¬ (IsForCache request)) ⊎ ((place : ℕ)
      × (IsFound settings.policy settings.guess request now responses decisions.Revalidate place
      ⊎ IsFound settings.policy settings.guess request now responses decisions.Unavailable place))

  -- what is served on an error, if something may be, unless memory runs out
  abbrev pub IsOnError : Result (Option Reply) AllocError → Type 0
  IsOnError (Ok (Some reply)) = IsShownOnError reply
  IsOnError (Ok None) = IsNoneOnError
  IsOnError (Err error) = HasFields settings.policy settings.guess request now responses
