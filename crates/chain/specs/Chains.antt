-- Gateways and caches in a row before a resource, and what a client receives from them.
use Rattle.std.specs.Prelude.{◌≡◌, ◌⊎◌, ℕ, ◌+◌, ◌-◌, ◌*◌, ◌≤◌, Bool, List, [], ◌∷◌, ◌++◌, codes}
use Rattle.{headers.specs.{LineMap.LineMap, Typed.HasLine}, cache_store.specs.Lookups.IsFreshFor}
use Rattle.cache_policy.specs.{Decisions.{IsGoodEnough, MayServeOnError}, Fields.{age_value, greatest}}
use Rattle.cache_policy.specs.declared.decision.Freshness.{Freshness}
use Rattle.cache_policy.specs.Policies.{Policy, asks as counted_of, tells}
use Rattle.cache_rules.specs.{Stored.fields_of_stored, declared.stored.StoredResponse.StoredResponse}
use Rattle.chain.specs.Caches.{CacheAnswers, Caching, Fails, IsFromStore, IsPlain, IsUnanswered, Origin, Reply}
use Rattle.chain.specs.{Caches.{per_second, shown}, Servers.{IsCarried, IsSaid, IsSent, SaysCloseAtMost, Site}}
use Rattle.chain.specs.Ways.{IsSentOn, received, named_host, sent_directly}
use Rattle.gateway_messages.specs.{FieldLines.fields_of as sent_fields, FieldLines.lines_under, Rejections.status_of}
use Rattle.gateway_messages.specs.{Requests.Rejects, Responses.{IsForwardedResponse, RejectsResponse, Response}}
use Rattle.gateway_messages.specs.{declared.gateway.Gateway.Gateway, declared.rejection.Rejection.Rejection}
use Rattle.gateway_messages.specs.{declared.response.ForwardedResponse.ForwardedResponse}
use Rattle.gateway_messages.specs.declared.protocol.Protocol.TheVariants.{Http11}
use Rattle.decide_resource.specs.Requests.{Request}

-- ---- a gateway

-- a gateway receives a reply as this response
pub record IsReceived (reply : Reply) (response : Response) : Type 0 where
  pub status : response.status ≡ reply.status
  pub fields : (name : List ℕ) → response.fields name ≡ reply.fields name

-- a gateway forwards what those behind it answer
pub record IsSentBack (gateway : Gateway) (behind reply : Reply) : Type 0 where
  pub response : Response
  pub received : IsReceived behind response
  pub date : ℕ
  pub sent : ForwardedResponse
  pub forwarded : IsForwardedResponse gateway date response sent
  pub status : reply.status ≡ response.status
  pub fields : (name : List ℕ) → reply.fields name ≡ lines_under (sent_fields sent.fields.items) name
  pub content : reply.content ≡ behind.content

-- Between these times a gateway forwards the request, and those behind it answer.
pub record IsAnswered (gateway : Gateway) (origin : Origin) (start now : ℕ) (target : List ℕ) (request : Request)
    (behind : Reply) : Type 0 where
  pub next : Request
  pub there : IsSentOn gateway request next
  pub sent : ℕ
  pub after : start ≤ sent
  pub came : ℕ
  pub past : came ≤ now
  pub answered : origin sent came target next behind

-- a gateway forwards the request, and what comes back
pub record IsForwardedBack (gateway : Gateway) (origin : Origin) (start now : ℕ) (target : List ℕ) (request : Request)
    (reply : Reply) : Type 0 where
  pub behind : Reply
  pub passed : IsAnswered gateway origin start now target request behind
  pub back : IsSentBack gateway behind reply

-- a gateway forwards the request, and rejects what comes back, in HTTP/1.1
pub record IsRejectedBack (gateway : Gateway) (origin : Origin) (start now : ℕ) (target : List ℕ) (request : Request)
    : Type 0 where
  pub behind : Reply
  pub passed : IsAnswered gateway origin start now target request behind
  pub response : Response
  pub received : IsReceived behind response
  pub protocol : response.protocol ≡ Http11
  pub method : response.method ≡ request.method
  pub client : response.client ≡ request.protocol
  pub rejection : Rejection
  pub rejects : RejectsResponse gateway response rejection

-- Why a gateway answers a request by itself, and with which status: it rejects the request, by 400, 417, 501 or 508; or
-- what those behind it answer, by 502; or none of them answers.
abbrev pub GatewayAnswers : Gateway → Origin → (ℕ → Bool) → ℕ → ℕ → List ℕ → Request → ℕ → Type 0
GatewayAnswers gateway origin silent start now target request status =
    ((rejection : Rejection) × Rejects gateway (received request) rejection × (status ≡ status_of rejection))
    ⊎ (IsRejectedBack gateway origin start now target request × (status ≡ 502))
    ⊎ (((next : Request) × IsSentOn gateway request next) × IsUnanswered silent start now status)

-- ---- a chain

-- what is between a client and a server
pub data Hop : Type 0 where
  Forwards : Gateway → Hop
  Stores : Caching → Hop

-- the reply of a gateway or a cache itself has no content, and no carried field
pub record IsBlank (reply : Reply) : Type 0 where
  pub content : reply.content ≡ []
  pub fields : (name : List ℕ) → IsCarried name → reply.fields name ≡ []

-- The reply was stored before: these gave one with its status, to an earlier request for the target.
pub record HasBeenGiven (origin : Origin) (now : ℕ) (target : List ℕ) (reply : Reply) : Type 0 where
  pub sent : ℕ
  pub came : ℕ
  pub past : came ≤ now
  pub first : Request
  pub plain : IsPlain target first
  pub given_reply : Reply
  pub given : origin sent came target first given_reply
  pub status : reply.status ≡ given_reply.status

-- The server of each host and target; and when a request to those behind a place in a chain may get no answer, by the
-- hops behind it: a server or a gateway is down, or the network is.
module _ (site : Site) (silent : List Hop → ℕ → Bool) where
  -- What those behind a list of hops give, the hop nearest to the client first, to a request that is sent at the first
  -- time, by the second. The last one forwards to the server of the target.
  abbrev pub behind : List Hop → Origin
  behind [] start now target request reply =
      (time : ℕ) × (start ≤ time) × (time ≤ now) × IsSent (site (named_host request) target) time request reply
  behind (Forwards gateway ∷ hops) start now target request reply =
      IsForwardedBack gateway (behind hops) start now target request reply
      ⊎ (GatewayAnswers gateway (behind hops) (silent hops) start now target request reply.status × IsBlank reply)
  behind (Stores caching ∷ hops) start now target request reply =
      behind hops start now target request reply
      ⊎ IsFromStore caching (behind hops) (silent hops) start now target request reply
      ⊎ (CacheAnswers caching (behind hops) (silent hops) start now target request reply.status × IsBlank reply)

  -- One of the hops gave the reply by itself, for one of its reasons: the first one does; or one behind it did, and the
  -- first one forwards that, or stored it as it may store any response.
  abbrev pub own : List Hop → Origin
  own [] start now target request reply = ⊥
  own (Forwards gateway ∷ hops) start now target request reply =
      ((f : IsForwardedBack gateway (behind hops) start now target request reply)
      × own hops f.passed.sent f.passed.came target f.passed.next f.behind)
      ⊎ GatewayAnswers gateway (behind hops) (silent hops) start now target request reply.status
  own (Stores caching ∷ hops) start now target request reply =
      own hops start now target request reply
      ⊎ (IsFromStore caching (behind hops) (silent hops) start now target request reply
      × HasBeenGiven (own hops) now target reply)
      ⊎ CacheAnswers caching (behind hops) (silent hops) start now target request reply.status

-- the request as the client would send it to the server itself: without what is for the first gateway alone
abbrev pub meant : List Hop → Request → Request
meant [] request = request
meant (Forwards gateway ∷ hops) request = sent_directly gateway request
meant (Stores caching ∷ hops) request = meant hops request

-- ---- what a client may rely on

-- how many caches there are
abbrev pub caches : List Hop → ℕ
caches [] = 0
caches (Forwards gateway ∷ hops) = caches hops
caches (Stores caching ∷ hops) = caches hops + 1

-- So many seconds count the time from the one to the other, but for at most so many of them; or they are the greatest
-- number of 64 bits, which says nothing.
abbrev pub Counts : ℕ → ℕ → ℕ → ℕ → Type 0
Counts seconds short time now = (seconds ≡ greatest) ⊎ (now - time ≤ per_second * (seconds + short))

-- By the policy a stored response with these fields is good enough for a request with those, at once: it is fresh, or
-- each directive that applies allows it stale (RFC 9111, section 4.2.4).
abbrev pub IsGood : Policy → LineMap → LineMap → Freshness → Type 0
IsGood policy request response freshness =
    IsGoodEnough policy.kind (counted_of policy request response freshness) (tells policy response) freshness

-- or it is as an error comes (`stale-if-error`; RFC 5861, section 4)
abbrev pub IsGoodOnError : Policy → LineMap → LineMap → Freshness → Type 0
IsGoodOnError policy request response freshness =
    MayServeOnError policy.kind (counted_of policy request response freshness) (tells policy response) freshness

-- The cache finds the stored response good enough for the request, by its policy and within its bound of guesses, at an
-- age that counts the time since it was said. By its clock it had come after that. By `stale-if-error` it is good
-- enough only if those behind the cache fail.
pub record FindsGood (caching : Caching) (origin : Origin) (silent : ℕ → Bool) (short time start now : ℕ)
    (target : List ℕ) (request : Request) (stored : StoredResponse) : Type 0 where
  pub came : ℕ
  pub since : time ≤ came
  pub past : came ≤ now
  pub received : stored.received ≡ shown caching.clock came
  pub freshness : Freshness
  pub fresh_for : IsFreshFor caching.policy caching.most stored freshness.lifetime
  pub old : Counts freshness.age short time now
  pub good : IsGood caching.policy request.fields (fields_of_stored stored) freshness
      ⊎ (IsGoodOnError caching.policy request.fields (fields_of_stored stored) freshness
      × Fails origin silent start now target request)

module _ (site : Site) (silent : List Hop → ℕ → Bool) where
  -- A cache on the way found the reply good enough for a request with this method and Cache-Control, which came to it
  -- after the first time, and served it at the second. What it had stored has the status of the reply, its carried
  -- fields, and its Date, unless the cache's clock shows a year after 9999.
  pub record IsGoodAt (hops : List Hop) (time start now : ℕ) (target : List ℕ) (request : Request) (reply : Reply)
      : Type 0 where
    pub caching : Caching
    pub nearer : List Hop
    pub further : List Hop
    pub on_the_way : hops ≡ nearer ++ Stores caching ∷ further
    pub asked : Request
    pub method : asked.method ≡ request.method
    pub directs : asked.fields (codes "cache-control") ≡ request.fields (codes "cache-control")
    pub arrived : ℕ
    pub after : start ≤ arrived
    pub stored : StoredResponse
    pub status : reply.status ≡ stored.status
    pub same : (name : List ℕ) → IsCarried name → reply.fields name ≡ fields_of_stored stored name
    pub date : HasLine (fields_of_stored stored (codes "date"))
        → reply.fields (codes "date") ≡ fields_of_stored stored (codes "date")
    pub found : FindsGood caching (behind site silent further) (silent further) (caches further + 1) time arrived now
        target asked stored

  -- The reply is what the resource said about the request at some time, and it left the server then, or a cache later,
  -- which found it good enough. Age counts the time from the one to the other, but for a second for each cache, whose
  -- clock shows whole seconds. From then on the reply was on its way.
  pub record IsTold (hops : List Hop) (start now : ℕ) (target : List ℕ) (request : Request) (reply : Reply) : Type 0
    where
      pub time : ℕ
      pub said : IsSaid (site (named_host request) target) time request reply
      pub left : ℕ
      pub since : time ≤ left
      pub after : start ≤ left
      pub past : left ≤ now
      pub aged : Counts (age_value reply.fields) (caches hops) time left
      pub good : (time ≡ left) ⊎ IsGoodAt hops time start left target request reply
      pub connection : SaysCloseAtMost reply.fields

  -- a gateway or a cache on the way gave the reply by itself, for one of its reasons
  pub record IsOwn (hops : List Hop) (start now : ℕ) (target : List ℕ) (request : Request) (reply : Reply) : Type 0
    where
      pub reason : own site silent hops start now target request reply
      pub blank : IsBlank reply
