-- What a client reads after its own write.
use Rattle.std.proofs.Common.{◌≡◌, ℕ, zero, ◌≤◌, Bool, true, cond, max, List, [], ◌∷◌, slice_get, nat_eq, ◌&&◌}
use Rattle.std.proofs.Common.{bytes_eq, Option, Some, None, refl, sym, arith, ◌∙◌, eq-eqb, inl, inr, le_refl, le_trans}
use Rattle.std.{proofs.{Math.Nat.{le-max_right, max-le}, lemmas.Bool.cond_both}, specs.Prelude.⊤}
use Rattle.updates.specs.Events.{Event, Event.{Forwards, Serves, Freshens, Answers, Returns, Arrives}, acts, happens}
use Rattle.updates.specs.Events.{run, sends, sends_stored, after_removing, after_storing, with_node, made_of, performs}
use Rattle.updates.specs.{Events.answers_put, Statements.{Has, Routes, next_after, IsRouted, Invalidates}}
use Rattle.updates.specs.{Statements.{StoresNoneFromBefore, Throughout, ReadsOlder}, Worlds.{Version, Put, Request}}
use Rattle.updates.specs.Worlds.{Request.{Get, Puts}, Response, Response.{Status200, Status204, Status304, Refused}}
use Rattle.updates.specs.Worlds.{Hop, Message, Message.{Going, Coming}, Node, Received, World, client_of, written_by}
use Rattle.updates.{specs.Worlds.{start, is_true}, proofs.Lists.{slice_get_push, IfFound, each-cons, there}}

-- ---- how old things may be

-- A floor is a number for each gateway and cache: no version below it comes from there any more.
abbrev pub Floors : Type 0
Floors = ℕ → ℕ

-- no version below this one comes from a place
abbrev pub level : World → Floors → Option ℕ → ℕ
level w floor None = w.current.number
level w floor (Some node) = floor node

abbrev pub AreBelow : List Version → ℕ → Type 0
AreBelow vs l = (v : Version) → Has vs v → v.number ≤ l

-- where nothing was removed since, the floor of a hop that was passed is no higher
abbrev pub HopsBelow : World → Floors → List Hop → ℕ → Type 0
HopsBelow w floor hops l = (hop : Hop) → Has hops hop → hop.removals ≡ (w.nodes hop.node).removals → floor hop.node ≤ l

abbrev pub known : Request → List Version
known (Get client written) = written
known (Puts put) = []

-- The hops lead from the client, by the routes; nothing below what the request knows comes from any of them; and they
-- have removed no less since.
abbrev pub IsWay : Routes → World → Floors → Request → List Hop → Type 0
IsWay routes w floor request [] = ⊤
IsWay routes w floor request (hop ∷ hops) =
    (next_after routes (client_of request) hops ≡ Some hop.node) × AreBelow (known request) (floor hop.node)
    × (hop.removals ≤ (w.nodes hop.node).removals) × IsWay routes w floor request hops

abbrev pub Bounded : Routes → World → Floors → List Hop → Request → Response → Type 0
Bounded routes w floor left request (Status200 v) = AreBelow (known request) v.number × HopsBelow w floor left v.number
Bounded routes w floor left request (Status204 v) =
    v.number ≤ level w floor (next_after routes (client_of request) left)
Bounded routes w floor left request other = ⊤

abbrev pub Placed : Routes → World → Floors → Message → Type 0
Placed routes w floor (Going passed request) = IsWay routes w floor request passed
    × AreBelow (known request) (level w floor (next_after routes (client_of request) passed))
    × HopsBelow w floor passed (level w floor (next_after routes (client_of request) passed))
Placed routes w floor (Coming left request response) =
    IsWay routes w floor request left × Bounded routes w floor left request response

abbrev pub IsRight : Request → Response → Type 0
IsRight request (Status200 v) = AreBelow (known request) v.number
IsRight request other = ⊤

pub record Ordered (routes : Routes) (w : World) (floor : Floors) : Type 0 where
  pub nodes : (n : ℕ) → floor n ≤ level w floor (routes.next n)
  pub own : (client : ℕ) → AreBelow (written_by client w.received) (level w floor (routes.first client))
  pub stored : (n k : ℕ) → IfFound (λ v. floor n ≤ v.number) (slice_get (w.nodes n).stored k)
  pub messages : (k : ℕ) → IfFound (Placed routes w floor) (slice_get w.messages k)
  pub received : (one : Received) → Has w.received one → IsRight one.request one.response

-- some floors
abbrev pub IsOrdered : Routes → World → Type 0
IsOrdered routes w = (floor : Floors) × Ordered routes w floor

-- the floor at a place rises to this
abbrev raised : Floors → ℕ → ℕ → Floors
raised floor at l n = cond (nat_eq n at) (max (floor at) l) (floor n)

-- a 200 that is stored isn't below this
abbrev IsTimely : ℕ → Response → Bool → Type 0
IsTimely l (Status200 v) stores = stores ≡ true → l ≤ v.number
IsTimely l other stores = ⊤

-- ---- floors rise

-- what may change, and how
record Rises (w : World) (floor : Floors) (v : World) (above : Floors) : Type 0 where
  levels : (place : Option ℕ) → level w floor place ≤ level v above place
  removals : (n : ℕ) → (w.nodes n).removals ≤ (v.nodes n).removals
  same : (n : ℕ) → (w.nodes n).removals ≡ (v.nodes n).removals → above n ≤ floor n

module _ (routes : Routes) {w v : World} {floor above : Floors} (rises : Rises w floor v above) where
  way-rises : (request : Request) (hops : List Hop) → IsWay routes w floor request hops
      → IsWay routes v above request hops
  way-rises request [] way = tt
  way-rises request (hop ∷ hops) way = (
    way.0,
    λ x has. le_trans (way.1 x has) (rises.levels (Some hop.node)),
    le_trans way.2 (rises.removals hop.node),
    way-rises request hops way.3,
  )

  -- a removal that counts no more than once can't be undone
  hops-rise : (request : Request) (hops : List Hop) (l m : ℕ) → IsWay routes w floor request hops → l ≤ m
      → HopsBelow w floor hops l → HopsBelow v above hops m
  hops-rise request [] l m way more below = λ hop none. absurd none
  hops-rise request (first ∷ hops) l m way more below = each-cons first hops (λ same.
      let grow = rises.removals first.node in
      let before : first.removals ≡ (w.nodes first.node).removals = omega (arith, way.2, grow, same) in
      le_trans (rises.same first.node (sym before ∙ same)) (le_trans (below first (inl refl) before) more))
      (hops-rise request hops l m way.3 more (λ hop has. below hop (inr has)))

  bounded-rises : (left : List Hop) (request : Request) (response : Response) → IsWay routes w floor request left
      → Bounded routes w floor left request response → Bounded routes v above left request response
  bounded-rises left request (Status200 x) way bounded =
      (bounded.0, hops-rise request left x.number x.number way (le_refl _) bounded.1)
  bounded-rises left request (Status204 x) way bounded = le_trans bounded (rises.levels _)
  bounded-rises left request other way bounded = tt

  placed-rises : (m : Message) → Placed routes w floor m → Placed routes v above m
  placed-rises (Going passed request) placed =
      let up = rises.levels (next_after routes (client_of request) passed) in (
        way-rises request passed placed.0,
        λ x has. le_trans (placed.1 x has) up,
        hops-rise request passed _ _ placed.0 up placed.2,
      )
  placed-rises (Coming left request response) placed =
      (way-rises request left placed.0, bounded-rises left request response placed.0 placed.1)

  found-rises : (o : Option Message) → IfFound (Placed routes w floor) o → IfFound (Placed routes v above) o
  found-rises o placed = grind (arith, placed-rises)

-- ---- steps

sends-ordered : {routes : Routes} {w : World} {floor : Floors} → Ordered routes w floor → (m : Message)
    → Placed routes w floor m → Ordered routes (sends m w) floor
sends-ordered ordered m placed = grind (arith, slice_get_push)

module _ {routes : Routes} {w : World} {floor : Floors} (ordered : Ordered routes w floor) where
  forwards-ordered : (node : ℕ) (passed : List Hop) (request : Request)
      → next_after routes (client_of request) passed ≡ Some node → Placed routes w floor (Going passed request)
      → Ordered routes (acts (Forwards 0 node) (Some (Going passed request)) w) floor
  forwards-ordered node passed request here placed = grind (arith, sends-ordered)

  -- ---- caches

  -- the floors of the hops before one are no higher
  inner : (request : Request) (hop : Hop) (left : List Hop) → IsWay routes w floor request (hop ∷ left)
      → (other : Hop) → Has left other → floor other.node ≤ floor hop.node
  inner request hop [] way = λ other none. absurd none
  inner request hop (next ∷ left) way =
      let up = rw way.0 at (ordered.nodes next.node) in
      each-cons {P = λ other. floor other.node ≤ floor hop.node} next left up
      (λ other has. le_trans (inner request next left way.3 other has) up)

  -- what a cache stores isn't below its floor
  serves-ordered : (passed : List Hop) (request : Request) (node : ℕ) (o : Option Version)
      → IsWay routes w floor request passed → AreBelow (known request) (floor node)
      → HopsBelow w floor passed (floor node) → IfFound (λ v. floor node ≤ v.number) o
      → Ordered routes (sends_stored Status200 passed request o w) floor
  serves-ordered passed request node o way below hops fresh = grind (arith, sends-ordered)

  -- ---- the origin server

  performs-ordered : (put : Put) (etag : List ℕ) → Ordered routes (performs put (made_of put etag w) w) floor
  performs-ordered put etag = grind arith

  answers_put-ordered : (etag : List ℕ) (says_applied : Bool) (passed : List Hop) (put : Put)
      → next_after routes put.client passed ≡ None → IsWay routes w floor (Puts put) passed
      → Ordered routes (answers_put etag says_applied passed put w) floor
  answers_put-ordered etag says_applied passed put here way =
      cond_both (is_true put.condition w.current) _ _ (λ v. Ordered routes v floor)
      (λ e. sends-ordered (performs-ordered put etag) (Coming passed (Puts put) (Status204 (made_of put etag w)))
      (way, rw here (le_refl _)))
      (λ e. sends-ordered ordered _ (cond_both (says_applied && bytes_eq put.content w.current.content)
      (Status204 w.current) (Refused 412) (λ r. Placed routes w floor (Coming passed (Puts put) r))
      (λ e. (way, rw here (le_refl _))) (λ e. (way, tt))))

  -- ---- clients

  arrives-ordered : (request : Request) (response : Response) → Bounded routes w floor [] request response
      → Ordered routes (record w { received = record { request = request; response = response } ∷ w.received }) floor
  arrives-ordered request response bounded =
      let one : Received = record { request = request; response = response } in
      let own : (client : ℕ) → AreBelow (written_by client (one ∷ w.received)) (level w floor (routes.first client)) =
      grind (arith, ordered.own) in
      let right : IsRight request response = grind arith in
      let received = each-cons {P = λ x. IsRight x.request x.response} one w.received right ordered.received in
      assumption (own, received)

  -- ---- a response passes

  -- a gateway or a cache changes, and its floor rises
  rises-at : (at l : ℕ) (node : Node) → (w.nodes at).removals ≤ node.removals
      → ((w.nodes at).removals ≡ node.removals → l ≤ floor at) → Rises w floor (with_node at node w) (raised floor at l)
  rises-at at l node more same = grind arith

  turned-ordered : (at l : ℕ) (node : Node) → Rises w floor (with_node at node w) (raised floor at l)
      → l ≤ level w floor (routes.next at)
      → ((k : ℕ) → IfFound (λ v. max (floor at) l ≤ v.number) (slice_get node.stored k))
      → Ordered routes (with_node at node w) (raised floor at l)
  turned-ordered at l node rises below stored = record {
    nodes = λ n. le_trans (there (λ k b. cond b (max (floor at) l) (floor k) ≤ level w floor (routes.next k)) n at
        (max-le (ordered.nodes at) below) (ordered.nodes n)) (rises.levels (routes.next n));
    own = λ client v has. le_trans (ordered.own client v has) (rises.levels (routes.first client));
    stored = λ n. there (λ k b. (j : ℕ) → IfFound (λ v. cond b (max (floor at) l) (floor k) ≤ v.number)
        (slice_get (cond b node (w.nodes k)).stored j)) n at stored (ordered.stored n);
    messages = λ k. found-rises routes rises _ (ordered.messages k);
    received = ordered.received;
  }

  -- what isn't a 204 leaves the floors
  passes : (hop : Hop) (left : List Hop) (request : Request) (response : Response) (removes stores : Bool)
      → IsTimely (floor hop.node) response stores → IsWay routes w floor request left
      → Bounded routes w floor left request response
      → Ordered routes (acts (Returns 0 removes stores) (Some (Coming (hop ∷ left) request response)) w)
      (raised floor hop.node 0)
  passes hop left request response removes stores timely way bounded =
      let node : Node = after_storing response stores (after_removing removes (w.nodes hop.node)) in
      let more : (w.nodes hop.node).removals ≤ node.removals = grind arith in
      let fresh : (k : ℕ) → IfFound (λ v. max (floor hop.node) 0 ≤ v.number) (slice_get node.stored k) =
      grind (arith, ordered.stored hop.node) in
      let rises = rises-at hop.node 0 node more (λ e. omega arith) in
      sends-ordered (turned-ordered hop.node 0 node rises (omega arith) fresh)
      _ (way-rises routes rises request left way, bounded-rises routes rises left request response way bounded)

  -- after a 204 nothing older comes from here
  confirms : (hop : Hop) (left : List Hop) (request : Request) (v : Version) (stores : Bool)
      → Placed routes w floor (Coming (hop ∷ left) request (Status204 v))
      → Ordered routes (acts (Returns 0 true stores) (Some (Coming (hop ∷ left) request (Status204 v))) w)
      (raised floor hop.node v.number)
  confirms hop left request v stores placed =
      let rises = rises-at hop.node v.number (after_removing true (w.nodes hop.node)) (omega arith)
      (λ e. absurd (omega (arith, e))) in
      sends-ordered (turned-ordered hop.node v.number _ rises placed.1 (λ k. grind arith)) _ (
        way-rises routes rises request left placed.0.3,
        rw (placed.0.0, eq-eqb hop.node hop.node refl) (le-max_right _ _),
      )

  -- ---- whole runs

  acts-ordered : (event : Event) (o : Option Message) → IsRouted routes event o w → Invalidates event o w
      → StoresNoneFromBefore event o w → IfFound (Placed routes w floor) o → IsOrdered routes (acts event o w)
  acts-ordered (Forwards message node) (Some (Going passed request)) here inv timely placed =
      (floor, forwards-ordered node passed request here placed)
  acts-ordered (Serves message node which) (Some (Going passed (Get client written))) here inv timely placed = (
    floor,
    serves-ordered passed (Get client written) node _ placed.0 (rw here at placed.1) (rw here at placed.2)
        (ordered.stored node which),
  )
  acts-ordered (Freshens _ which) (Some (Coming (hop ∷ left) request (Status304 named))) here inv timely placed = (
    floor,
    serves-ordered left request hop.node _ placed.0.3 placed.0.1
        (λ other has e. inner request hop left placed.0 other has) (grind (arith, ordered.stored hop.node which)),
  )
  acts-ordered (Answers message etag says_applied) (Some (Going passed (Get client written))) here inv timely placed =
      (floor, sends-ordered ordered _ (placed.0, (rw here at placed.1, rw here at placed.2)))
  acts-ordered (Answers message etag says_applied) (Some (Going passed (Puts put))) here inv timely placed =
      (floor, answers_put-ordered etag says_applied passed put here placed.0)
  acts-ordered (Returns _ removes stores) (Some (Coming (hop ∷ left) request (Status200 v))) here inv timely placed = (
    raised floor hop.node 0,
    passes hop left request (Status200 v) removes stores (λ yes. placed.1.1 hop (inl refl) (timely yes)) placed.0.3
        (placed.1.0, λ other has. placed.1.1 other (inr has)),
  )
  acts-ordered (Returns _ removes stores) (Some (Coming (hop ∷ left) request (Status204 v))) here inv timely placed =
      (raised floor hop.node v.number, rw inv (confirms hop left request v stores placed))
  acts-ordered (Returns _ removes stores) (Some (Coming (hop ∷ left) request response)) here inv timely placed =
      (raised floor hop.node 0, passes hop left request response removes stores tt placed.0.3 tt)
  acts-ordered (Arrives message) (Some (Coming [] request response)) here inv timely placed =
      (floor, arrives-ordered request response placed.1)
  acts-ordered event o here inv timely placed = (floor, grind (arith, sends-ordered, slice_get_push))

pub run-ordered : (routes : Routes) (events : List Event) (w : World) → Throughout (IsRouted routes) events w
    → Throughout Invalidates events w → Throughout StoresNoneFromBefore events w → IsOrdered routes w
    → IsOrdered routes (run events w)
run-ordered routes [] w routed inv timely ordered = ordered
run-ordered routes (event ∷ events) w routed inv timely (floor, ordered) = run-ordered routes events (happens w event)
    routed.1 inv.1 timely.1 (acts-ordered ordered event _ routed.0 inv.0 timely.0 (grind (arith, ordered.messages)))

-- at the start nothing is below the first version but itself
pub start-ordered : (routes : Routes) (first : Version) → IsOrdered routes (start first)
start-ordered routes first = (λ n. zero, grind arith)

pub reads-own : (routes : Routes) (w : World) → IsOrdered routes w → ReadsOlder w → ⊥
reads-own routes w ordered older = grind arith
