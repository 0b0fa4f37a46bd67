-- The result of the preconditions of a request (RFC 9110, section 13.2.2).
use Rattle.std.specs.Prelude.{◌≡◌, ◌⊎◌, ℕ, List, codes}
use Rattle.{headers.specs.LineMap.LineMap, decide_preconditions.specs.Conditions.{IsPresent, IfMatchIsTrue}}
use Rattle.decide_preconditions.specs.Conditions.{IfNoneMatchIsFalse, IfNoneMatchMayBeFalse, ModifiedSinceIsFalse}
use Rattle.decide_preconditions.specs.Conditions.{ModifiedSinceLets, UnmodifiedSinceIsFalse, UnmodifiedSinceLets}
use Rattle.decide_preconditions.specs.declared.resource.TargetState.{TargetState, TheVariants.{Missing, Current}}
use Rattle.decide_preconditions.specs.declared.precondition.Precondition.{Precondition, TheVariants.Perform}
use Rattle.decide_preconditions.specs.declared.precondition.Precondition.TheVariants.{NotModified, Failed}

-- the method selects and modifies no representation
abbrev pub IsUnconditional : List ℕ → Type 0
IsUnconditional method =
    (method ≡ codes "CONNECT") ⊎ ((method ≡ codes "OPTIONS") ⊎ (method ≡ codes "TRACE"))

-- the method is GET or HEAD
abbrev pub IsGetOrHead : List ℕ → Type 0
IsGetOrHead method = (method ≡ codes "GET") ⊎ (method ≡ codes "HEAD")

-- the method reads a resource without a current representation, which is answered by 404 without preconditions
abbrev pub ReadsMissing : TargetState → List ℕ → Type 0
ReadsMissing Missing method = IsGetOrHead method
ReadsMissing (Current validators) method = ⊥

-- Preconditions don't count (section 13.2.1): the method isn't one of theirs, or they are ignored since the response
-- without them is neither a 2xx nor a 412.
abbrev pub AreIgnored : TargetState → List ℕ → Type 0
AreIgnored resource method = IsUnconditional method ⊎ ReadsMissing resource method

abbrev pub HasIfMatch : LineMap → Type 0
HasIfMatch request = IsPresent (codes "if-match") request

abbrev pub HasIfNoneMatch : LineMap → Type 0
HasIfNoneMatch request = IsPresent (codes "if-none-match") request

-- step 3 of GET and HEAD: If-None-Match is present and false
abbrev pub IsStoredByTag : LineMap → TargetState → Type 0
IsStoredByTag request resource = HasIfNoneMatch request × IfNoneMatchIsFalse request resource

-- step 3 of other methods: If-None-Match is present, and it is false or may be
abbrev pub MayBeThere : LineMap → TargetState → Type 0
MayBeThere request resource = HasIfNoneMatch request × IfNoneMatchMayBeFalse request resource

module _ (present : ℕ) (request : LineMap) (resource : TargetState) where
  -- Steps 1 and 2 give 412: If-Match is present and false; or it is absent, and If-Unmodified-Since is false.
  abbrev pub StateIsLost : Type 0
  StateIsLost = (HasIfMatch request × ¬ (IfMatchIsTrue request resource))
      ⊎ ((¬ (HasIfMatch request)) × UnmodifiedSinceIsFalse present request resource)

  -- steps 1 and 2 let the request pass to step 3
  abbrev pub StateIsKept : Type 0
  StateIsKept = (HasIfMatch request → IfMatchIsTrue request resource)
      × ((¬ (HasIfMatch request)) → UnmodifiedSinceLets present request resource)

  -- step 4, which only GET and HEAD take: If-None-Match is absent, and If-Modified-Since is false
  abbrev pub IsStoredByDate : Type 0
  IsStoredByDate = (¬ (HasIfNoneMatch request)) × ModifiedSinceIsFalse present request resource

  -- what lets a GET or a HEAD be performed in steps 3 and 4
  pub record IsRead : Type 0 where
    pub by_tag : HasIfNoneMatch request → ¬ (IfNoneMatchIsFalse request resource)
    pub by_date : (¬ (HasIfNoneMatch request)) → ModifiedSinceLets present request resource

  -- Which facts give each result: 412, 304, or the method is performed, by steps 5 and 6. A malformed If-None-Match
  -- gives neither a 304 of a read nor a write of an existing representation.
  abbrev pub StepsAnswer : List ℕ → Precondition → Type 0
  StepsAnswer method Failed = StateIsLost ⊎ (StateIsKept × (¬ (IsGetOrHead method)) × MayBeThere request resource)
  StepsAnswer method NotModified = StateIsKept × IsGetOrHead method × (IsStoredByTag request resource ⊎ IsStoredByDate)
  StepsAnswer method Perform = StateIsKept × (IsGetOrHead method → IsRead)
      × ((¬ (IsGetOrHead method)) → ¬ (MayBeThere request resource))

  -- the result for a request: preconditions don't count, or the steps give it
  pub record Answers (method : List ℕ) (answer : Precondition) : Type 0 where
    pub unconditional : AreIgnored resource method → answer ≡ Perform
    pub conditional : (¬ (AreIgnored resource method)) → StepsAnswer method answer
