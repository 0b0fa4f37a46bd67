-- What is said of a world that some events have made.
use Rattle.std.specs.Prelude.{◌≡◌, ◌≢◌, ◌⊎◌, ℕ, ◌<◌, Bool, true, List, [], ◌∷◌, slice_get, Option, Some, None, ⊤}
use Rattle.updates.specs.Events.{Event, Event.{Forwards, Serves, ServesTag, AnswersTag, Answers, Returns}, happens}
use Rattle.updates.specs.{Events.{found_at, place_of}, Worlds.{Version, Put, Hop, Message, Message.{Going, Coming}}}
use Rattle.updates.specs.Worlds.{Change, World, client_of, versions, Condition.IfMatch, Request.Get, Response.Status200}
use Rattle.updates.specs.Worlds.Response.{Status204}

-- the list has this element
abbrev pub Has : {X : Type 0} → List X → X → Type 0
Has [] x = ⊥
Has (y ∷ ys) x = (y ≡ x) ⊎ Has ys x

-- ---- entity tags

-- Tags are strong: no two versions with different contents have the same one (RFC 9110, section 8.8.1). So is a tag
-- that is a digest of the content.
abbrev pub HasStrongTags : World → Type 0
HasStrongTags world =
    (v w : Version) → Has (versions world) v → Has (versions world) w → v.etag ≡ w.etag → v.content ≡ w.content

-- No two versions have the same tag, not even with the same content. So is a tag with the number of a revision.
abbrev pub HasUniqueTags : World → Type 0
HasUniqueTags world = (v w : Version) → Has (versions world) v → Has (versions world) w → v.etag ≡ w.etag → v ≡ w

-- ---- what a PUT replaced

-- it has If-Match with the tag of the version that its client had read
abbrev pub IsGuarded : Put → Type 0
IsGuarded put = put.condition ≡ IfMatch put.read.etag

-- The changes, the latest first, lead from the first version to this one: each of them replaced the version that the
-- one before had made, made one with its own content, and was made of the very version that it replaced.
abbrev pub LeadsTo : Version → List Change → Version → Type 0
LeadsTo first [] current = current ≡ first
LeadsTo first (change ∷ earlier) current =
    (change.made ≡ current) × (change.made.content ≡ change.put.content) × (change.put.read ≡ change.replaced)
    × LeadsTo first earlier change.replaced

-- An update is lost: two PUTs that were made of the same version have both been performed.
pub record LosesAnUpdate (world : World) : Type 0 where
  pub place : ℕ
  pub other : ℕ
  pub change : Change
  pub rival : Change
  pub at_place : slice_get world.changes place ≡ Some change
  pub at_other : slice_get world.changes other ≡ Some rival
  pub same_base : change.put.read ≡ rival.put.read
  pub two : place ≢ other

-- ---- what a client may rely on

-- A 204 is true: the origin server has had a version with the content of this PUT. It performed such a PUT, or had the
-- content already.
abbrev pub IsStored : World → Put → Version → Type 0
IsStored world put version = Has (versions world) version × (version.content ≡ put.content)

-- The client sent the GET when it knew to have written a version, and got one that is older.
pub record ReadsOlder (world : World) : Type 0 where
  pub client : ℕ
  pub written : List Version
  pub own : Version
  pub version : Version
  pub got : Has world.received (record { request = Get client written; response = Status200 version })
  pub knew : Has written own
  pub older : version.number < own.number

-- ---- what (4) asks of gateways and caches

-- where a client sends its requests, and where a gateway or a cache sends those on: to one of them, or to the origin
-- server
pub record Routes : Type 0 where
  pub first : ℕ → Option ℕ
  pub next : ℕ → Option ℕ

abbrev pub next_after : Routes → ℕ → List Hop → Option ℕ
next_after routes client [] = routes.first client
next_after routes client (hop ∷ passed) = routes.next hop.node

-- if it is a request, it comes to this place next
abbrev pub ComesTo : Routes → Option ℕ → Option Message → Type 0
ComesTo routes place (Some (Going passed request)) = next_after routes (client_of request) passed ≡ place
ComesTo routes place other = ⊤

-- what is asked of an event, by the message that it happens to
abbrev pub Rule : Type 1
Rule = Event → Option Message → World → Type 0

-- requests go where the routes lead
abbrev pub IsRouted : Routes → Rule
IsRouted routes (Forwards message node) found world = ComesTo routes (Some node) found
IsRouted routes (Serves message node which) found world = ComesTo routes (Some node) found
IsRouted routes (ServesTag message node which) found world = ComesTo routes (Some node) found
IsRouted routes (AnswersTag message) found world = ComesTo routes None found
IsRouted routes (Answers message etag says_applied) found world = ComesTo routes None found
IsRouted routes other found world = ⊤

-- a success of an unsafe method removes what is stored (RFC 9111, section 4.4)
abbrev pub InvalidatesOn : Bool → Option Message → Type 0
InvalidatesOn removes (Some (Coming left request (Status204 version))) = removes ≡ true
InvalidatesOn removes other = ⊤

abbrev pub Invalidates : Rule
Invalidates (Returns message removes stores) found world = InvalidatesOn removes found
Invalidates other found world = ⊤

-- A response is stored only if nothing was removed since the cache sent the request on. RFC 9111 doesn't ask for this.
abbrev pub StoresNoneFromBefore : Rule
StoresNoneFromBefore (Returns message removes stores) (Some (Coming (hop ∷ left) request response)) world =
    stores ≡ true → hop.removals ≡ (world.nodes hop.node).removals
StoresNoneFromBefore other found world = ⊤

-- each event is so in the world in which it happens
abbrev pub Throughout : Rule → List Event → World → Type 0
Throughout P [] world = ⊤
Throughout P (event ∷ events) world =
    P event (found_at (place_of event) world.messages) world × Throughout P events (happens world event)
