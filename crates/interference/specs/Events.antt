-- What may happen, in any order.
use Rattle.std.specs.Prelude.{ℕ, zero, suc, Bool, true, false, List, [], ◌∷◌, ◌++◌, ◌==◌, ◌&&◌, bytes_eq, if◌then◌else◌}
use Rattle.{std.specs.Prelude.{Option, Some, None}, interference.specs.Worlds.{Request, Head, Origin, Dated, Stored}}
use Rattle.interference.specs.Worlds.{Node, Kind, Kind.{ByPlace, OneSlot, IgnoresAuthorization, FreshensOthers}}
use Rattle.interference.specs.Worlds.{Kind.FreshensInPlace, Asked, Hop, Reply, Reply.{Whole, NotModified}, Message}
use Rattle.interference.specs.Worlds.{Message.{Going, Coming, Nothing}, Place, Pass, Pass.{At, Ended}, Received}
use Rattle.interference.specs.Worlds.{Clients, World, is_fresh, matches, may_store, authorization, start, told}
use Rattle.interference.specs.Worlds.Doing.{Waits, GivesStored, Completes, Gives}

-- What a run is of: caches of one kind, an origin server, and clients.
pub record Setting : Type 0 where
  pub kind : Kind
  pub origin : Origin
  pub clients : Clients

-- A message, or a pass, is the one at this place among all. Where nothing can happen, `Nothing` is sent, or the pass
-- has `Ended`.
pub data Event : Type 0 where
  -- a second passes
  Ticks : Event
  -- the origin server changes by itself
  Changes : Event
  -- a client sends one of its requests
  Sends : (client number : ℕ) → Event
  -- A request comes to a cache, which looks up: the pass remembers the number of a stored answer.
  Begins : (message cache which : ℕ) → Event
  -- The pass sends the request on, to another cache or the origin server: to validate what it remembers, or to get
  -- another.
  Asks : (pass : ℕ) → Event
  -- the origin server answers, whole or by a 304; an unsafe request changes it
  Answers : (message : ℕ) → Event
  AnswersNotModified : (message : ℕ) → Event
  -- a reply comes back to the cache
  Returns : (message : ℕ) → Event
  -- after a 304 the pass looks up what it remembers
  Looks : (pass : ℕ) → Event
  -- the pass stores what it will send, if it may
  Stores : (pass : ℕ) → Event
  -- The pass stores what it will send, which a 304 may have confirmed, for the request of a stored answer too (RFC
  -- 9111, section 4.3.4).
  Freshens : (pass which : ℕ) → Event
  -- the pass sends its reply, or only the head of it, as a 304
  Replies : (pass : ℕ) → (whole : Bool) → Event
  -- a cache forgets a stored answer: for lack of room, or since something changed (RFC 9111, section 4.4)
  Forgets : (cache which : ℕ) → Event
  -- a reply reaches its client
  Arrives : (message : ℕ) → Event

-- the element at this place
abbrev pub nth : {X : Type 0} → X → List X → ℕ → X
nth default [] k = default
nth default (x ∷ xs) zero = x
nth default (x ∷ xs) (suc k) = nth default xs k

-- ---- a store

abbrev pub with_number : ℕ → List Stored → Option Stored
with_number number [] = None
with_number number (one ∷ others) = if one.number == number then Some one else with_number number others

abbrev pub at_place : List Stored → ℕ → Option Stored
at_place [] place = None
at_place (one ∷ others) zero = Some one
at_place (one ∷ others) (suc place) = at_place others place

abbrev pub without : ℕ → List Stored → List Stored
without number [] = []
without number (one ∷ others) = if one.number == number then without number others else one ∷ without number others

-- what a pass remembers, as it is now
abbrev pub found : Kind → ℕ → Node → Option Stored
found ByPlace which node = at_place node.stored which
found kind which node = with_number which node.stored

-- a request without Authorization
abbrev pub anonymous : Request → Request
anonymous request =
    record request { fields = λ name. if bytes_eq name authorization then None else request.fields name }

abbrev pub stores : Kind → Request → Head → Bool
stores IgnoresAuthorization request head = may_store (anonymous request) head
stores kind request head = may_store request head

abbrev pub with_stored : Request → Dated → Node → Node
with_stored request given node =
    record node {
      next = suc node.next;
      stored = record { number = node.next; request = request; given = given } ∷ node.stored;
    }

-- what is not stored goes into the slot, if there is one
abbrev pub with_once : Kind → Dated → Node → Node
with_once OneSlot given node = record node { slot = Some given }
with_once kind given node = node

abbrev pub after_storing : Kind → Request → Dated → Node → Node
after_storing kind request given node =
    if stores kind request given.answer.head then with_stored request given node else with_once kind given node

abbrev pub forgotten : ℕ → Node → Node
forgotten number node = record node { stored = without number node.stored }

abbrev pub changed_at : ℕ → (Node → Node) → (ℕ → Node) → ℕ → Node
changed_at cache change nodes n = if n == cache then change (nodes n) else nodes n

-- ---- a pass in a cache

-- RFC 9111, section 4: it may be sent without validation
abbrev pub is_usable : (now : ℕ) → Request → Option Stored → Bool
is_usable now request None = false
is_usable now request (Some one) =
    request.is_get && matches one.given.answer.head one.request request && is_fresh now one.given

abbrev pub begins : Kind → World → ℕ → ℕ → Message → Pass
begins kind world cache which (Going passed asked) =
    At (record { cache = cache; which = which; left = passed; asked = asked })
    (if is_usable world.now asked.request (found kind which (world.nodes cache)) then GivesStored else Waits)
begins kind world cache which other = Ended

abbrev pub sent_on : Place → Message
sent_on place = Going (record { cache = place.cache; which = place.which } ∷ place.left) place.asked

-- also what is fresh may be validated
abbrev pub asks_on : Pass → Message
asks_on (At place Waits) = sent_on place
asks_on (At place GivesStored) = sent_on place
asks_on other = Nothing

abbrev pub place_of : Hop → List Hop → Asked → Place
place_of hop left asked = record { cache = hop.cache; which = hop.which; left = left; asked = asked }

abbrev pub comes_back : Message → Pass
comes_back (Coming (hop ∷ left) asked (Whole given)) = At (place_of hop left asked) (Gives given)
comes_back (Coming (hop ∷ left) asked (NotModified version date head)) =
    At (place_of hop left asked) (Completes version date head)
comes_back other = Ended

-- the stored content under the head of the 304 (section 4.3.4), if that is about the same target and has the same tag
abbrev pub completed : Place → Dated → Option Stored → Pass
completed place confirmed None = Ended
completed place confirmed (Some one) =
    if (one.request.target == place.asked.request.target)
    && bytes_eq one.given.answer.head.etag confirmed.answer.head.etag
    then At place (Gives confirmed)
    else Ended

abbrev pub content_of : Option Stored → List ℕ
content_of None = []
content_of (Some one) = one.given.answer.content

abbrev pub looks : Kind → World → Pass → Pass
looks kind world (At place (Completes version date head)) =
    let one = found kind place.which (world.nodes place.cache) in
    completed place
    (record { version = version; date = date; answer = record { head = head; content = content_of one } }) one
looks kind world other = Ended

abbrev pub nodes_after : Kind → Pass → (ℕ → Node) → ℕ → Node
nodes_after kind (At place (Gives given)) nodes =
    changed_at place.cache (after_storing kind place.asked.request given) nodes
nodes_after kind other nodes = nodes

-- it may be stored for both requests, and is an answer to both
abbrev pub is_renewable : Kind → Request → Request → Head → Bool
is_renewable FreshensOthers first request head = may_store request head &&
    (may_store first head && (first.target == request.target))
is_renewable kind first request head = may_store request head && (may_store first head && matches head first request)

abbrev pub with_given : ℕ → Dated → List Stored → List Stored
with_given number given [] = []
with_given number given (one ∷ others) =
    (if one.number == number then record one { given = given } else one) ∷ with_given number given others

-- what is freshened gets a new number; the old one may be forgotten
abbrev pub renewed : Kind → Stored → Dated → Node → Node
renewed FreshensInPlace one given node = record node { stored = with_given one.number given node.stored }
renewed kind one given node = with_stored one.request given node

abbrev pub freshened : Kind → Request → Dated → Option Stored → Node → Node
freshened kind request given None node = node
freshened kind request given (Some one) node =
    if is_renewable kind one.request request given.answer.head then renewed kind one given node else node

abbrev pub nodes_freshened : Kind → ℕ → Pass → (ℕ → Node) → ℕ → Node
nodes_freshened kind which (At place (Gives given)) nodes =
    changed_at place.cache (λ node. freshened kind place.asked.request given (found kind which node) node) nodes
nodes_freshened kind which other nodes = nodes

abbrev pub in_slot : Kind → Option Dated → Dated → Dated
in_slot OneSlot (Some other) given = other
in_slot kind slot given = given

abbrev pub reply_of : Bool → Dated → Reply
reply_of true given = Whole given
reply_of false given = NotModified given.version given.date given.answer.head

abbrev pub reply_stored : Place → Bool → Option Stored → Message
reply_stored place whole None = Nothing
reply_stored place whole (Some one) = Coming place.left place.asked (reply_of whole one.given)

abbrev pub replies : Kind → World → Bool → Pass → Message
replies kind world whole (At place (Gives given)) =
    Coming place.left place.asked (reply_of whole (in_slot kind (world.nodes place.cache).slot given))
replies kind world whole (At place GivesStored) =
    reply_stored place whole (found kind place.which (world.nodes place.cache))
replies kind world whole other = Nothing

-- ---- the origin server

abbrev pub answered : Origin → World → Request → Dated
answered origin world request =
    record { version = world.version; date = world.now; answer = origin world.version request }

abbrev pub answers : Origin → Bool → World → Message → Message
answers origin whole world (Going passed asked) =
    Coming passed asked (reply_of whole (answered origin world asked.request))
answers origin whole world other = Nothing

abbrev pub changed_by : Message → ℕ → ℕ
changed_by (Going passed asked) version = if asked.request.is_get then version else suc version
changed_by other version = version

-- ---- a client

abbrev pub asked_now : ℕ → Request → World → Asked
asked_now client request world =
    record { client = client; request = request; version = world.version; time = world.now }

abbrev pub arrives : Message → List Received → List Received
arrives (Coming [] asked (Whole given)) received = record { asked = asked; given = given } ∷ received
arrives other received = received

-- ---- whole runs

abbrev pub sends : Message → World → World
sends message world = record world { messages = world.messages ++ message ∷ [] }

abbrev pub goes_on : Pass → World → World
goes_on pass world = record world { passes = world.passes ++ pass ∷ [] }

abbrev pub message_at : World → ℕ → Message
message_at world place = nth Nothing world.messages place

abbrev pub pass_at : World → ℕ → Pass
pass_at world place = nth Ended world.passes place

abbrev pub happens : Setting → World → Event → World
happens s world Ticks = record world { now = suc world.now }
happens s world Changes = record world { version = suc world.version }
happens s world (Sends client number) =
    sends (Going [] (asked_now client (s.clients client number (told client world.received)) world)) world
happens s world (Begins message cache which) =
    goes_on (begins s.kind world cache which (message_at world message)) world
happens s world (Asks pass) = sends (asks_on (pass_at world pass)) world
happens s world (Answers message) =
    sends (answers s.origin true world (message_at world message))
    (record world { version = changed_by (message_at world message) world.version })
happens s world (AnswersNotModified message) = sends (answers s.origin false world (message_at world message)) world
happens s world (Returns message) = goes_on (comes_back (message_at world message)) world
happens s world (Looks pass) = goes_on (looks s.kind world (pass_at world pass)) world
happens s world (Stores pass) = record world { nodes = nodes_after s.kind (pass_at world pass) world.nodes }
happens s world (Freshens pass which) =
    record world { nodes = nodes_freshened s.kind which (pass_at world pass) world.nodes }
happens s world (Replies pass whole) = sends (replies s.kind world whole (pass_at world pass)) world
happens s world (Forgets cache which) = record world { nodes = changed_at cache (forgotten which) world.nodes }
happens s world (Arrives message) = record world { received = arrives (message_at world message) world.received }

abbrev pub run_from : Setting → List Event → World → World
run_from s [] world = world
run_from s (event ∷ events) world = run_from s events (happens s world event)

abbrev pub run : Setting → List Event → World
run s events = run_from s events start
