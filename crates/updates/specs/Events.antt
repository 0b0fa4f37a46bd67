-- What may happen, in any order. What is lost is a message that never comes, and what a cache forgets is a stored
-- response that it never serves.
use Rattle.std.specs.Prelude.{ℕ, suc, Bool, true, false, List, [], ◌∷◌, ◌++◌, ◌==◌, ◌&&◌, bytes_eq, if◌then◌else◌}
use Rattle.{std.specs.Prelude.{slice_get, Option, Some, None}, updates.specs.Worlds.{Version, Condition}}
use Rattle.updates.specs.Worlds.{Condition.{IfMatch, IfUnmodifiedSince, Unconditional}, Put, Request, Request.Get}
use Rattle.updates.specs.Worlds.{Request.Puts, Response, Response.{Status200, Status204, Status304, Refused}, Hop}
use Rattle.updates.specs.Worlds.{Message, Message.{Going, Coming}, Node, World, is_true, given, written_by}

-- how a client guards a PUT
pub data Guard : Type 0 where
  ByTag : Guard
  ByDate : Guard
  Not : Guard

-- the condition that the version which it read is still the current one
abbrev pub condition_on : Guard → Version → Condition
condition_on ByTag version = IfMatch version.etag
condition_on ByDate version = IfUnmodifiedSince version.modified
condition_on Not version = Unconditional

-- A message is the one at this place among those that were sent. If it isn't one that this can happen to, nothing does.
pub data Event : Type 0 where
  -- a second passes
  Ticks : Event
  -- a client sends a GET
  SendsGet : (client : ℕ) → Event
  -- a client makes this content of one of the versions that it has been given, and sends it
  SendsPut : (client which : ℕ) → Guard → (content : List ℕ) → Event
  -- a gateway or a cache sends a request on
  Forwards : (message node : ℕ) → Event
  -- a cache answers a GET by something that it stores, however old
  Serves : (message node which : ℕ) → Event
  -- A cache or the origin server answers a GET by a 304 with the tag of what it has. Whether the request was
  -- conditional, and on which tag, doesn't matter.
  ServesTag : (message node which : ℕ) → Event
  AnswersTag : (message : ℕ) → Event
  -- A 304 comes to a cache, which answers by the whole of something that it stores, with the same tag.
  Freshens : (message which : ℕ) → Event
  -- The origin server answers a request. If it performs a PUT, this is the new tag. If the condition is false, but the
  -- content is there already, it may answer 204 (RFC 9110, section 13.1.1).
  Answers : (message : ℕ) → (etag : List ℕ) → (says_applied : Bool) → Event
  -- the origin server, or anybody before it, answers a request by an error, and does nothing
  Refuses : (message status : ℕ) → Event
  -- a response passes a gateway or a cache, which removes what it stores, or not, and stores a 200, or not
  Returns : (message : ℕ) → (removes stores : Bool) → Event
  -- a response reaches its client
  Arrives : (message : ℕ) → Event

abbrev pub sends : Message → World → World
sends message world = record world { messages = world.messages ++ message ∷ [] }

-- ---- a client

abbrev pub sends_put : ℕ → Guard → List ℕ → Option Version → World → World
sends_put client guard content None world = world
sends_put client guard content (Some read) world =
    sends (Going [] (Puts (record {
      client = client;
      read = read;
      condition = condition_on guard read;
      content = content;
    }))) world

-- ---- a gateway or a cache

-- a response about a version that a cache stores
abbrev pub sends_stored : (Version → Response) → List Hop → Request → Option Version → World → World
sends_stored response passed request None world = world
sends_stored response passed request (Some version) world = sends (Coming passed request (response version)) world

-- what a cache has stored, if that has the tag of the 304
abbrev pub with_tag : Version → Option Version → Option Version
with_tag named None = None
with_tag named (Some version) = if bytes_eq version.etag named.etag then Some version else None

abbrev pub after_removing : Bool → Node → Node
after_removing true node = record { stored = []; removals = suc node.removals }
after_removing false node = node

abbrev pub after_storing : Response → Bool → Node → Node
after_storing (Status200 version) true node = record node { stored = version ∷ node.stored }
after_storing response stores node = node

abbrev pub with_node : ℕ → Node → World → World
with_node at node world = record world { nodes = λ n. if n == at then node else world.nodes n }

-- ---- the origin server

-- the version that a PUT makes
abbrev pub made_of : Put → List ℕ → World → Version
made_of put etag world =
    record { number = suc world.current.number; content = put.content; etag = etag; modified = world.now }

abbrev pub performs : Put → Version → World → World
performs put made world =
    record world {
      current = made;
      changes = record { put = put; replaced = world.current; made = made } ∷ world.changes;
    }

-- the answer to a PUT whose condition is false
abbrev pub refusal : Bool → Put → Version → Response
refusal says_applied put current =
    if says_applied && bytes_eq put.content current.content then Status204 current else Refused 412

-- a PUT is performed if its condition is true, else not (RFC 9110, section 13.2)
abbrev pub answers_put : List ℕ → Bool → List Hop → Put → World → World
answers_put etag says_applied passed put world =
    if is_true put.condition world.current
    then sends (Coming passed (Puts put) (Status204 (made_of put etag world)))
    (performs put (made_of put etag world) world)
    else sends (Coming passed (Puts put) (refusal says_applied put world.current)) world

-- ---- whole runs

-- the place of the message that it happens to
abbrev pub place_of : Event → Option ℕ
place_of (Forwards message node) = Some message
place_of (Serves message node which) = Some message
place_of (ServesTag message node which) = Some message
place_of (AnswersTag message) = Some message
place_of (Freshens message which) = Some message
place_of (Answers message etag says_applied) = Some message
place_of (Refuses message status) = Some message
place_of (Returns message removes stores) = Some message
place_of (Arrives message) = Some message
place_of other = None

abbrev pub found_at : Option ℕ → List Message → Option Message
found_at None messages = None
found_at (Some place) messages = slice_get messages place

-- what an event makes of the world, given the message that it happens to; one that can't happen leaves it
abbrev pub acts : Event → Option Message → World → World
acts Ticks found world = record world { now = suc world.now }
acts (SendsGet client) found world = sends (Going [] (Get client (written_by client world.received))) world
acts (SendsPut client which guard content) found world =
    sends_put client guard content (slice_get (given client world.received) which) world
acts (Forwards message node) (Some (Going passed request)) world =
    sends (Going (record { node = node; removals = (world.nodes node).removals } ∷ passed) request) world
-- only a GET is answered by a cache (RFC 9111, section 4)
acts (Serves message node which) (Some (Going passed (Get client written))) world =
    sends_stored Status200 passed (Get client written) (slice_get (world.nodes node).stored which) world
acts (ServesTag message node which) (Some (Going passed (Get client written))) world =
    sends_stored Status304 passed (Get client written) (slice_get (world.nodes node).stored which) world
acts (AnswersTag message) (Some (Going passed (Get client written))) world =
    sends (Coming passed (Get client written) (Status304 world.current)) world
acts (Freshens message which) (Some (Coming (hop ∷ left) request (Status304 named))) world =
    sends_stored Status200 left request (with_tag named (slice_get (world.nodes hop.node).stored which)) world
acts (Answers message etag says_applied) (Some (Going passed (Get client written))) world =
    sends (Coming passed (Get client written) (Status200 world.current)) world
acts (Answers message etag says_applied) (Some (Going passed (Puts put))) world =
    answers_put etag says_applied passed put world
acts (Refuses message status) (Some (Going passed request)) world = sends (Coming passed request (Refused status)) world
acts (Returns message removes stores) (Some (Coming (hop ∷ left) request response)) world =
    sends (Coming left request response)
    (with_node hop.node (after_storing response stores (after_removing removes (world.nodes hop.node))) world)
acts (Arrives message) (Some (Coming [] request response)) world =
    record world { received = record { request = request; response = response } ∷ world.received }
acts other found world = world

abbrev pub happens : World → Event → World
happens world event = acts event (found_at (place_of event) world.messages) world

abbrev pub run : List Event → World → World
run [] world = world
run (event ∷ events) world = run events (happens world event)
