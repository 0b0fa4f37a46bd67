-- A cache before other servers (RFC 9111): which requests it answers from its store, what it stores, and when.
use Rattle.std.specs.Prelude.{◌≡◌, ◌≢◌, ◌⊎◌, ℕ, ◌+◌, ◌-◌, ◌/◌, ◌≤◌, Bool, true, ◌&&◌, not, ◌==◌, List, [], ◌∷◌, ◌++◌}
use Rattle.std.specs.{Prelude.{All, Contains, None, Some, bytes_eq, codes, if◌then◌else◌, unwrap_or}, List.list_all}
use Rattle.headers.specs.{LineMap.{Field, LineMap, lines_at}, Lines.{Line, only_line}, Text.is_text}
use Rattle.cache_store.specs.{Contents.{Contents, responses_at}, History.{Call, Call.{Looked, Arrived, Removed}}}
use Rattle.cache_store.specs.{History.{History, Step}, Lookups.{IsAnswer, age_of_stored}, Served.Serves}
use Rattle.cache_store.specs.declared.{limits.Limits.Limits, lookup.Lookup.{Lookup, TheVariants.Serve}}
use Rattle.cache_store.specs.declared.lookup.Lookup.TheVariants.{ServeAndRevalidate, Validate, ValidateOrServe}
use Rattle.cache_store.specs.{declared.lookup.Lookup.TheVariants.{Unavailable, Forward}, Numbers.numbered}
use Rattle.decide_preconditions.specs.Preconditions.{IsGetOrHead}
use Rattle.cache_policy.specs.{Policies.Policy, Requests.Request as Asked}
use Rattle.cache_rules.specs.{Stored.fields_of_stored, declared.storing.Reception.Reception}
use Rattle.cache_rules.specs.{declared.stored.StoredResponse.StoredResponse}
use Rattle.gateway_messages.specs.declared.protocol.Protocol.TheVariants.{Http11}
use Rattle.decide_resource.specs.{Requests.Request, declared.request.RequestContent.TheVariants.Absent}

-- a response as it is received, with its content
pub record Reply : Type 0 where
  pub status : ℕ
  pub fields : LineMap
  pub content : List ℕ

-- a response to HEAD has no content (RFC 9110, section 9.3.2)
abbrev pub unless_head : List ℕ → List ℕ → List ℕ
unless_head method content = if bytes_eq method (codes "HEAD") then [] else content

-- A time is a number of ticks since 1970. So many are in a second.
abbrev pub per_second : ℕ
per_second = 1_000_000_000

abbrev pub second_of : ℕ → ℕ
second_of time = time / per_second

-- those who answer requests: to a request to a target that is sent at the first time they give this reply by the second
abbrev pub Origin : Type 1
Origin = ℕ → ℕ → List ℕ → Request → Reply → Type 0

-- a request as a cache reads it
abbrev pub asked : Request → Asked
asked request = record { method = request.method; fields = request.fields }

-- ---- which requests

-- The fields that a plain request doesn't have: connection options, which could name any field of it; those of content;
-- expectations; conditions; and ranges.
abbrev pub special_names : List (List ℕ)
special_names =
    codes "connection" ∷ codes "content-type" ∷ codes "content-encoding" ∷ codes "expect" ∷ codes "if-match"
    ∷ codes "if-none-match" ∷ codes "if-modified-since" ∷ codes "if-unmodified-since" ∷ codes "range"
    ∷ codes "if-range" ∷ []

-- the host is text, and no slash is in it
abbrev pub is_bare : Line → Bool
is_bare host = is_text host && list_all (λ b. not (b == 47)) host

-- a GET or a HEAD in HTTP/1.1 without content, whose target isn't in absolute-form, which the server doesn't deny
pub record IsBareRead (request : Request) : Type 0 where
  pub method : IsGetOrHead request.method
  pub protocol : request.protocol ≡ Http11
  pub authority : request.authority ≡ None
  pub content : request.content ≡ Absent
  pub admitted : request.denied ≡ None

-- A request that a cache may answer from its store: a bare read of a path at one host, without the special fields.
pub record IsPlain (target : List ℕ) (request : Request) : Type 0 where
  pub read : IsBareRead request
  pub path : List ℕ
  pub is_path : target ≡ 47 ∷ path
  pub host : Line
  pub has_host : request.fields (codes "host") ≡ host ∷ []
  pub bare : is_bare host ≡ true
  pub without : All (λ name. request.fields name ≡ []) special_names

-- The key under which a cache stores the responses to a request: the URI of its target, of its host and its path (RFC
-- 9111, section 2; RFC 9110, section 7.1).
abbrev pub key_of : List ℕ → Request → List ℕ
key_of target request = codes "http://" ++ (unwrap_or (only_line (request.fields (codes "host"))) [] ++ target)

-- ---- the clock of a cache

-- A clock, and its ticks at a time. It runs as time does from when it was set; it may be wrong, and its seconds begin
-- when they like.
pub record Clock : Type 0 where
  pub ticks : ℕ → ℕ
  pub set : ℕ
  pub runs : (time later : ℕ) → set ≤ time → time ≤ later → ticks later ≡ ticks time + (later - time)

-- the second that it shows
abbrev pub shown : Clock → ℕ → ℕ
shown clock time = second_of (clock.ticks time)

-- ---- what a cache does

-- a cache: its policy, how much it stores, how many seconds it guesses at most for a lifetime that nobody states, and
-- its clock
pub record Caching : Type 0 where
  pub policy : Policy
  pub limits : Limits
  pub most : ℕ
  pub clock : Clock

-- an act of a cache on its store
pub data Act : Type 0 where
  -- it looks for a stored response to a request to a target
  Looks : List ℕ → Request → Act
  -- it takes the response to a request to a target that it sent on: so it is stored, if it is
  Takes : List ℕ → Request → StoredResponse → Reception → Act
  -- it removes what is stored under a key
  Drops : List ℕ → Act

-- what a cache writes down of a request, and of the response to it: all of it, and what its clock showed when it sent
-- the request on and when the response came
pub record IsNoted (request : Request) (requested : ℕ) (reply : Reply) (received : ℕ) (came : StoredResponse)
    : Type 0 where
  pub method : came.method ≡ request.method
  pub asked_fields : (name : List ℕ) → lines_at came.request name ≡ request.fields name
  pub status : came.status ≡ reply.status
  pub fields : (name : List ℕ) → fields_of_stored came name ≡ reply.fields name
  pub content : came.content ≡ reply.content
  pub requested_at : came.requested ≡ requested
  pub received_at : came.received ≡ received

-- The response came from those behind the cache, after the cache sent the request on.
pub record HasComeFrom (clock : Clock) (origin : Origin) (now : ℕ) (target : List ℕ) (request : Request)
    (came : StoredResponse) : Type 0 where
  pub sent : ℕ
  pub received : ℕ
  pub reply : Reply
  pub answered : origin sent received target request reply
  pub noted : IsNoted request (shown clock sent) reply (shown clock received) came
  pub set_before : clock.set ≤ sent
  pub after : sent ≤ received
  pub past : received ≤ now

module _ (caching : Caching) (origin : Origin) (now : ℕ) where
  -- What an act makes of what is stored. A cache looks for plain requests alone, and takes the responses to those that
  -- it sent on.
  abbrev pub Does : Act → Contents → Contents → Type 0
  Does (Looks target request) old new =
      IsPlain target request × Step caching.policy caching.limits (Looked (key_of target request)) old new
  Does (Takes target request came reception) old new =
      IsPlain target request × HasComeFrom caching.clock origin now target request came
      × Step caching.policy caching.limits (Arrived (key_of target request) came reception) old new
  Does (Drops key) old new = Step caching.policy caching.limits (Removed key) old new

  -- a cache that was empty has this after these acts, the latest first
  abbrev pub HasAfter : List Act → Contents → Type 0
  HasAfter [] contents = contents ≡ []
  HasAfter (act ∷ acts) contents = (before : Contents) × HasAfter acts before × Does act before contents

-- the call of the store
abbrev pub call_of : Act → Call
call_of (Looks target request) = Looked (key_of target request)
call_of (Takes target request came reception) = Arrived (key_of target request) came reception
call_of (Drops key) = Removed key

-- the calls of the store, the latest first
abbrev pub calls_of : List Act → History
calls_of [] = []
calls_of (act ∷ acts) = call_of act ∷ calls_of acts

-- A cache of this policy asks its store for a plain request: this is the answer, and this is stored before and after.
pub record IsSought (policy : Policy) (limits : Limits) (most : ℕ) (target : List ℕ) (request : Request) (now : ℕ)
    (old new : Contents) (lookup : Lookup) : Type 0 where
  pub plain : IsPlain target request
  pub looked : Step policy limits (Looked (key_of target request)) old new
  pub answer : IsAnswer policy most (asked request) now (responses_at (key_of target request) new) lookup

-- the lookup lets the cache send the stored response with the number if the servers behind it fail (RFC 5861, section
-- 4)
abbrev pub ServesOnError : Lookup → ℕ → Type 0
ServesOnError (ValidateOrServe named fields) number = named ≡ number
ServesOnError (Validate named fields) number = ⊥
ServesOnError (Serve named age) number = ⊥
ServesOnError (ServeAndRevalidate named age) number = ⊥
ServesOnError Unavailable number = ⊥
ServesOnError Forward number = ⊥

-- After its acts the cache asks its store for the request: this is the answer, and this is stored.
pub record HasSought (caching : Caching) (origin : Origin) (now : ℕ) (target : List ℕ) (request : Request)
    (contents : Contents) (lookup : Lookup) : Type 0 where
  pub acts : List Act
  pub before : Contents
  pub has : HasAfter caching origin now acts before
  pub sought : IsSought caching.policy caching.limits caching.most target request (shown caching.clock now) before
      contents lookup

-- the statuses of an error (RFC 5861, section 4)
abbrev pub error_statuses : List ℕ
error_statuses = 500 ∷ 502 ∷ 503 ∷ 504 ∷ []

-- at some time between these no answer comes to what is sent
abbrev pub IsSilent : (ℕ → Bool) → ℕ → ℕ → Type 0
IsSilent silent start now = (time : ℕ) × (start ≤ time) × (time ≤ now) × (silent time ≡ true)

-- Those who are asked fail: they answer by an error, or not at all.
abbrev pub Fails : Origin → (ℕ → Bool) → ℕ → ℕ → List ℕ → Request → Type 0
Fails origin silent start now target request =
    IsSilent silent start now
    ⊎ ((reply : Reply) × origin start now target request reply × Contains error_statuses reply.status)

-- The reply to a request that was sent at the first time, and which is received at the second: in between the cache
-- serves it a stored response, with its age. It does so at once, or as those behind it fail.
pub record IsFromStore (caching : Caching) (origin : Origin) (silent : ℕ → Bool) (start now : ℕ) (target : List ℕ)
    (request : Request) (reply : Reply) : Type 0 where
  pub time : ℕ
  pub after : start ≤ time
  pub past : time ≤ now
  pub contents : Contents
  pub lookup : Lookup
  pub found : HasSought caching origin time target request contents lookup
  pub number : ℕ
  pub age : Field
  pub stored : StoredResponse
  pub at : numbered number (responses_at (key_of target request) contents) ≡ Some stored
  pub serves : Serves lookup number age
      ⊎ (ServesOnError lookup number × Fails origin silent start time target request
      × (age ≡ age_of_stored stored (shown caching.clock time)))
  pub status : reply.status ≡ stored.status
  pub content : reply.content ≡ unless_head request.method stored.content
  pub fields : (name : List ℕ) → name ≢ codes "age" → reply.fields name ≡ fields_of_stored stored name
  pub has_age : reply.fields (codes "age") ≡ age.1

-- nobody answers, which a gateway or a cache says by 502 or 504 (RFC 9110, sections 15.6.3 and 15.6.5)
abbrev pub IsUnanswered : (ℕ → Bool) → ℕ → ℕ → ℕ → Type 0
IsUnanswered silent start now status = IsSilent silent start now × ((status ≡ 502) ⊎ (status ≡ 504))

-- Why a cache answers a request by itself, and with which status: the request forbids to ask anybody, and no stored
-- response is good enough (`only-if-cached`; RFC 9111, section 5.2.1.7); or nobody behind the cache answers.
abbrev pub CacheAnswers : Caching → Origin → (ℕ → Bool) → ℕ → ℕ → List ℕ → Request → ℕ → Type 0
CacheAnswers caching origin silent start now target request status =
    (((time : ℕ) × (contents : Contents) × (start ≤ time) × (time ≤ now)
    × HasSought caching origin time target request contents Unavailable) × (status ≡ 504))
    ⊎ IsUnanswered silent start now status
