-- What there is: a chain, and a shared store.
use Rattle.std.specs.Prelude.{◌≡◌, ◌≢◌, ℕ, ◌≤◌, List, false, [], ◌∷◌, codes}
use Rattle.cache_policy.specs.{Fields.age_value, Policies.Policy, Requests.Request as Asked}
use Rattle.cache_policy.specs.declared.Kind.TheVariants.{Shared}
use Rattle.{cache_rules.specs.declared.stored.StoredResponse.StoredResponse, cache_store.specs.History.History}
use Rattle.cache_store.specs.declared.limits.Limits.{Limits}
use Rattle.{chain.specs.Caches.{Caching, Reply, per_second}, chain.specs.Chains.{Hop.{Forwards, Stores}, behind}}
use Rattle.chain.specs.{Servers.Server, Sharing.{IsServedNext, TakeAnswers}}
use Rattle.{gateway_messages.specs.declared.gateway.Gateway.Gateway, decide_resource.specs.Requests.Request}
use Rattle.interference.specs.{Statements.{HasStrongTags, SaysWhatItDependsOn}, Worlds.{Clients, Origin}}
use Rattle.interference.specs.Worlds.{Request as Sent}

-- A gateway, a cache and a server give a client this reply to its request for a path, a second after 1970 began. It has
-- Age, of a second or more, which the server doesn't write: so the cache served it. Nothing is silent, and a reply
-- takes no time.
pub record IsInstance : Type 0 where
  pub server : Server
  pub gateway : Gateway
  pub caching : Caching
  pub request : Request
  pub reply : Reply
  pub given : behind (λ host target. server) (λ hops time. false) (Forwards gateway ∷ Stores caching ∷ []) per_second
      per_second (codes "/") request reply
  pub age : 1 ≤ age_value reply.fields
  pub without_age : (time status : ℕ) → server.own time status (codes "age") ≡ []
  pub content : reply.content ≡ codes "gone"
  pub status : reply.status ≡ 410

-- A shared store serves a client what came, before an origin server that gives two requests for some target different
-- contents.
pub record IsSharing : Type 0 where
  pub policy : Policy
  pub limits : Limits
  pub target_of : List ℕ → ℕ
  pub origin : Origin
  pub clients : Clients
  pub calls : History
  pub target : List ℕ
  pub request : Asked
  pub stored : StoredResponse
  pub kind : policy.kind ≡ Shared
  pub takes : TakeAnswers policy target_of origin clients calls
  pub says : SaysWhatItDependsOn origin
  pub strong : HasStrongTags origin
  pub served : IsServedNext policy limits target_of clients calls target request stored
  pub first : Sent
  pub second : Sent
  pub same : first.target ≡ second.target
  pub differ : (origin 0 first).content ≢ (origin 0 second).content
