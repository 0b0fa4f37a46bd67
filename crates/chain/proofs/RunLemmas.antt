-- The events of a cache of `interference` for a call of a store.
use Rattle.std.proofs.Common.{◌≡◌, ◌⊎◌, ℕ, ◌<◌, ◌≤◌, Bool, true, false, List, [], ◌∷◌, ◌++◌, length, refl, ap, ◌∙◌}
use Rattle.std.proofs.Common.{Some, arith, eq-eqb, if◌then◌else◌, inl, inr, le_refl, suc, subst, sym, zero}
use Rattle.std.proofs.lemmas.Bool.Decides.{nat_tests}
use Rattle.interference.specs.Events.{Event, Event.{Answers, AnswersNotModified, Asks, Begins, Freshens, Looks}}
use Rattle.interference.specs.Events.{Event.{Returns, Sends, Stores}, Setting, answered, answers, asked_now, asks_on}
use Rattle.interference.specs.Events.{begins, changed_by, comes_back, happens, is_usable, message_at, nodes_after, nth}
use Rattle.interference.specs.Events.{nodes_freshened, pass_at, reply_of, run_from, sent_on, with_number, with_stored}
use Rattle.interference.specs.Worlds.{Asked, Clients, Dated, Doing, Doing.{Completes, Gives, GivesStored, Waits}, Hop}
use Rattle.interference.specs.Worlds.{Kind.Right, Message, Message.{Coming, Going, Nothing}, Node, Origin, Pass, Place}
use Rattle.interference.specs.Worlds.{Pass.{At, Ended}, Request, Stored, World, may_store, told}
use Rattle.chain.{specs.Sharing.right, proofs.SharingLemmas.nth-end}

-- ---- a run goes on

pub run_from-append : (s : Setting) (first more : List Event) (w : World)
    → run_from s (first ++ more) w ≡ run_from s more (run_from s first w)
run_from-append s [] more w = refl
run_from-append s (event ∷ first) more w = run_from-append s first more (happens s w event)

-- ---- what a cache keeps

pub record Keeps (a b : Node) : Type 0 where
  pub next : a.next ≤ b.next
  pub same : (k : ℕ) → k < a.next → with_number k b.stored ≡ with_number k a.stored

pub keeps-refl : (a : Node) → Keeps a a
keeps-refl a = record { next = le_refl _; same = λ k below. refl }

pub keeps-trans : (a b c : Node) → Keeps a b → Keeps b c → Keeps a c
keeps-trans a b c h k = record {
  next = omega (arith, h.next, k.next);
  same = λ n below. k.same n (omega (arith, h.next, below)) ∙ h.same n below;
}

pub keeps-stored : (r : Request) (given : Dated) (a : Node) → Keeps a (with_stored r given a)
keeps-stored r given a = grind arith

pub keeps-after : (p : Pass) (nodes : ℕ → Node) (cache : ℕ) → Keeps (nodes cache) (nodes_after Right p nodes cache)
keeps-after p nodes cache = grind (arith, keeps-stored)

pub keeps-freshened : (which : ℕ) (p : Pass) (nodes : ℕ → Node) (cache : ℕ)
    → Keeps (nodes cache) (nodes_freshened Right which p nodes cache)
keeps-freshened which p nodes cache = grind (arith, keeps-stored)

-- ---- a request that is sent on, and answered

-- the origin server answers whole, or by a 304
abbrev pub answers_by : Bool → ℕ → Event
answers_by true message = Answers message
answers_by false message = AnswersNotModified message

-- what the cache has then
abbrev pub gets : Bool → Dated → Doing
gets true given = Gives given
gets false given = Completes given.version given.date given.answer.head

on : (place : Place) (usable : Bool) → asks_on (At place (if usable then GivesStored else Waits)) ≡ sent_on place
on place true = refl
on place false = refl

back : (whole : Bool) (place : Place) (asked : Asked) (given : Dated)
    → comes_back (Coming (record { cache = place.cache; which = place.which } ∷ place.left) asked (reply_of whole
    given))
    ≡ At (record place { asked = asked }) (gets whole given)
back true place asked given = refl
back false place asked given = refl

-- what an answer leaves
record Leaves (origin : Origin) (whole : Bool) (message : ℕ) (w v : World) : Type 0 where
  messages : v.messages ≡ w.messages ++ answers origin whole w (message_at w message) ∷ []
  passes : v.passes ≡ w.passes
  nodes : v.nodes ≡ w.nodes
  now : v.now ≡ w.now
  received : v.received ≡ w.received
  version : (passed : List Hop) (asked : Asked) → message_at w message ≡ Going passed asked
      → asked.request.is_get ≡ true → v.version ≡ w.version

leaves : (origin : Origin) (clients : Clients) (whole : Bool) (message : ℕ) (w : World)
    → Leaves origin whole message w (happens (right origin clients) w (answers_by whole message))
leaves origin clients true message w = record {
  messages = refl;
  passes = refl;
  nodes = refl;
  now = refl;
  received = refl;
  version = λ passed asked at get. ap (λ (m : Message). changed_by m w.version) at ∙ rw get refl;
}
leaves origin clients false message w = record {
  messages = refl;
  passes = refl;
  nodes = refl;
  now = refl;
  received = refl;
  version = λ passed asked at get. refl;
}

module _ (origin : Origin) (clients : Clients) (cache client number which : ℕ) (whole : Bool) (w : World) where
  abbrev pub asks : Asked
  asks = asked_now client (clients client number (told client w.received)) w

  abbrev pub place : Place
  place = record { cache = cache; which = which; left = []; asked = asks }

  abbrev sent_world : World
  sent_world = happens (right origin clients) w (Sends client number)

  abbrev begun : World
  begun = happens (right origin clients) sent_world (Begins (length w.messages) cache which)

  abbrev went : World
  went = happens (right origin clients) begun (Asks (length w.passes))

  -- the events: the client asks; the request comes to the cache, which remembers the number, and sends the request on;
  -- the origin server answers; and that comes back
  abbrev pub fetch : List Event
  fetch =
      Sends client number ∷ Begins (length w.messages) cache which ∷ Asks (length w.passes)
      ∷ answers_by whole (length sent_world.messages) ∷ Returns (length went.messages) ∷ []

  abbrev pub fetched : World
  fetched = run_from (right origin clients) fetch w

  -- the pass that has the answer
  abbrev pub last : ℕ
  last = length begun.passes

  request_is : message_at went (length sent_world.messages) ≡ sent_on place
  request_is = nth-end Nothing sent_world.messages _ ∙ ap asks_on (nth-end Ended w.passes _)
      ∙ ap (λ (m : Message). asks_on (begins Right sent_world cache which m)) (nth-end Nothing w.messages _)
      ∙ on place (is_usable w.now asks.request (with_number which (w.nodes cache).stored))

  abbrev left : Leaves origin whole (length sent_world.messages) went
      (happens (right origin clients) went (answers_by whole (length sent_world.messages)))
  left = leaves origin clients whole (length sent_world.messages) went

  abbrev done : World
  done = happens (right origin clients) went (answers_by whole (length sent_world.messages))

  answer_is : message_at done (length went.messages) ≡ answers origin whole went (sent_on place)
  answer_is = ap (λ (ms : List Message). nth Nothing ms (length went.messages)) left.messages
      ∙ nth-end Nothing went.messages _ ∙ ap (answers origin whole went) request_is

  pub has_answer : pass_at fetched last ≡ At place (gets whole (answered origin w asks.request))
  has_answer =
      ap (λ (ps : List Pass). nth Ended (ps ++ comes_back (message_at done (length went.messages)) ∷ []) last)
      left.passes
      ∙ nth-end Ended begun.passes _ ∙ ap comes_back answer_is ∙ back whole place asks _

  pub same_nodes : fetched.nodes ≡ w.nodes
  same_nodes = left.nodes

  pub same_now : fetched.now ≡ w.now
  same_now = left.now

  pub same_version : asks.request.is_get ≡ true → fetched.version ≡ w.version
  same_version get = left.version _ _ request_is get

-- ---- blocks of events

by_end : (k n : ℕ) → k < suc n → (k < n) ⊎ (k ≡ n)
by_end k n below = grind (arith, nat_tests)

module _ (cache : ℕ) where
  -- Nothing passes, the version stays, and the cache keeps what it has.
  pub record Stays (w v : World) : Type 0 where
    pub now : v.now ≡ w.now
    pub version : v.version ≡ w.version
    pub keeps : Keeps (w.nodes cache) (v.nodes cache)

  pub stays-refl : (w : World) → Stays w w
  stays-refl w = record { now = refl; version = refl; keeps = keeps-refl (w.nodes cache) }

  stays-trans : (w v u : World) → Stays w v → Stays v u → Stays w u
  stays-trans w v u h k = record {
    now = k.now ∙ h.now;
    version = k.version ∙ h.version;
    keeps = keeps-trans _ _ _ h.keeps k.keeps;
  }

module _ (origin : Origin) (clients : Clients) (cache client number : ℕ)
    (get : (told : List Dated) → (clients client number told).is_get ≡ true) where
  abbrev pub asked_in : World → Asked
  asked_in w = asks origin clients cache client number 0 true w

  fetch-stays : (which : ℕ) (whole : Bool) (w : World)
      → Stays cache w (fetched origin clients cache client number which whole w)
  fetch-stays which whole w = record {
    now = same_now origin clients cache client number which whole w;
    version = same_version origin clients cache client number which whole w (get _);
    keeps = rw (same_nodes origin clients cache client number which whole w) (keeps-refl _);
  }

  -- ---- a whole answer

  abbrev pub take : World → List Event
  take w = fetch origin clients cache client number 0 true w
      ++ Stores (last origin clients cache client number 0 true w) ∷ []

  pub take-stays : (w : World) → Stays cache w (run_from (right origin clients) (take w) w)
  take-stays w = stays-trans cache w (fetched origin clients cache client number 0 true w) _ (fetch-stays 0 true w)
      (record {
        now = refl;
        version = refl;
        keeps = keeps-after (pass_at (fetched origin clients cache client number 0 true w)
            (last origin clients cache client number 0 true w))
            (fetched origin clients cache client number 0 true w).nodes cache;
      })

  pub take-stores : (w : World)
      → may_store (asked_in w).request (origin w.version (asked_in w).request).head ≡ true
      → (run_from (right origin clients) (take w) w).nodes cache
      ≡ with_stored (asked_in w).request (answered origin w (asked_in w).request) (w.nodes cache)
  take-stores w may =
      ap (λ (p : Pass). nodes_after Right p (fetched origin clients cache client number 0 true w).nodes cache)
      (has_answer origin clients cache client number 0 true w)
      ∙ ap (λ (nodes : ℕ → Node). nodes_after Right
      (At (place origin clients cache client number 0 true w) (Gives (answered origin w (asked_in w).request))) nodes
      cache)
      (same_nodes origin clients cache client number 0 true w)
      ∙ rw (eq-eqb cache cache refl, may) refl

  -- ---- a 304, for each number

  module _ {I : Type 0} (Is : I → Stored → Type 0) (Goal : I → Node → Type 0)
      (kept : (i : I) (a b : Node) → Keeps a b → Goal i a → Goal i b) (version : ℕ)
      (renews : (w v : World) (pass which : ℕ) (i : I) (one : Stored) → w.version ≡ version
      → pass_at v pass ≡ At (place origin clients cache client number which false w)
      (gets false (answered origin w (asked_in w).request))
      → with_number which (v.nodes cache).stored ≡ Some one → Is i one
      → Goal i ((run_from (right origin clients) (Looks pass ∷ Freshens (length v.passes) which ∷ []) v).nodes cache))
    where
      abbrev validate : ℕ → World → List Event
      validate which w =
          fetch origin clients cache client number which false w
          ++ Looks (last origin clients cache client number which false w)
          ∷ Freshens (length (fetched origin clients cache client number which false w).passes) which ∷ []

      validate-stays : (which : ℕ) (w : World) → Stays cache w (run_from (right origin clients) (validate which w) w)
      validate-stays which w =
          let v = fetched origin clients cache client number which false w in
          let looked = happens (right origin clients) v (Looks (last origin clients cache client number which false
          w)) in
          stays-trans cache w v (run_from (right origin clients) (validate which w) w) (fetch-stays which false w)
          (record {
            now = refl;
            version = refl;
            keeps = keeps-freshened which (pass_at looked (length v.passes)) v.nodes cache;
          })

      -- what numbers below this one name is freshened
      pub record Freshened (n : ℕ) (w : World) : Type 0 where
        pub events : List Event
        pub stays : Stays cache w (run_from (right origin clients) events w)
        pub fresh : (which : ℕ) (i : I) (one : Stored) → which < n → which < (w.nodes cache).next
            → with_number which (w.nodes cache).stored ≡ Some one → Is i one
            → Goal i ((run_from (right origin clients) events w).nodes cache)

      pub freshen : (n : ℕ) (w : World) → w.version ≡ version → Freshened n w
      freshen zero w is = record {
        events = [];
        stays = stays-refl cache w;
        fresh = λ which i one below known at fits. absurd (omega (arith, below));
      }
      freshen (suc n) w is =
          let h = freshen n w is in
          let u = run_from (right origin clients) h.events w in
          let v = run_from (right origin clients) (validate n u) u in
          let f = fetched origin clients cache client number n false u in
          let joined : run_from (right origin clients) (h.events ++ validate n u) w ≡ v
          = run_from-append (right origin clients) h.events (validate n u) w in
          let next = validate-stays n u in
          record {
            events = h.events ++ validate n u;
            stays = subst (Stays cache w) (sym joined) (stays-trans cache w u v h.stays next);
            fresh = λ which i one below known at fits. subst (λ (x : World). Goal i (x.nodes cache)) (sym joined)
                (elim (by_end which n below) [
                  | inl earlier ↦
                      kept i (u.nodes cache) (v.nodes cache) next.keeps (h.fresh which i one earlier known at fits)
                  | inr same ↦
                      renews u f (last origin clients cache client number n false u) n i one (h.stays.version ∙ is)
                      (has_answer origin clients cache client number n false u)
                      (ap (λ (nodes : ℕ → Node). with_number n (nodes cache).stored)
                      (same_nodes origin clients cache client number n false u)
                      ∙ h.stays.keeps.same n (subst (λ k. k < (w.nodes cache).next) same known)
                      ∙ subst (λ k. with_number k (w.nodes cache).stored ≡ Some one) same at)
                      fits
                ]);
          }
