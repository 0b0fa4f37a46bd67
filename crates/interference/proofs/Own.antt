-- What each event keeps, for confidentiality.
use Rattle.std.proofs.Common.{◌≡◌, ℕ, ◌<◌, ◌≤◌, Bool, true, false, cond, List, [], ◌∷◌, Option, Some, None, refl, arith}
use Rattle.std.proofs.{Common.{inl, le_refl}, lemmas.{Bool.Decides.nat_tests, Slice.Eq.bytes_eq-Decides}}
use Rattle.{std.specs.Prelude.⊤, interference.specs.Events.{Event, Event.{Ticks, Changes, Sends, Begins, Asks}}}
use Rattle.interference.specs.Events.Event.{Answers, AnswersNotModified, Returns, Looks, Stores, Freshens, Replies}
use Rattle.interference.specs.Events.{Event.{Forgets, Arrives}, Setting, happens, run_from, run, nth, with_number}
use Rattle.interference.specs.Events.{is_usable, looks, nodes_after, reply_of, reply_stored, replies, answered, answers}
use Rattle.interference.specs.{Events.{with_stored, is_renewable, freshened, nodes_freshened}, Statements.Has}
use Rattle.interference.specs.{Statements.{HasStrongTags, IsFor, IsRecent}, Worlds.{Request, Head, Origin, Dated}}
use Rattle.interference.specs.Worlds.{Stored, Node, Asked, Message, Message.{Going, Coming, Nothing}, Pass, Pass.At}
use Rattle.interference.specs.Worlds.{Pass.Ended, Received, Clients, World, start, matches, may_store, Hop, Kind.Right}
use Rattle.interference.specs.Worlds.{Reply.{Whole, NotModified}, Doing.{Waits, GivesStored, Completes, Gives}}
use Rattle.interference.proofs.{Lists.{IfFound, nth_push, number_without}, Matching.{matches-first, matches-sym}}

abbrev pub with_content : ℕ → ℕ → Head → List ℕ → Dated
with_content version date head content =
    record { version = version; date = date; answer = record { head = head; content = content } }

-- ---- what holds

abbrev pub Good : Origin → ℕ → Asked → Dated → Type 0
Good o v asked given = (given.version ≤ v) × IsRecent asked given × IsFor o given asked.request

abbrev pub Sent : ℕ → ℕ → Asked → Type 0
Sent v now asked = (asked.version ≤ v) × (asked.time ≤ now)

abbrev pub Confirms : Origin → ℕ → Asked → ℕ → ℕ → Head → Type 0
Confirms o v asked version date head = (content : List ℕ) × Good o v asked (with_content version date head content)

-- what a pass remembers is an answer to its request, and no other answer gets its number
abbrev pub Remembers : Origin → ℕ → Node → ℕ → Asked → Type 0
Remembers o v node which asked =
    (which < node.next) × IfFound (λ one. Good o v asked one.given) (with_number which node.stored)

abbrev pub Fine : Origin → ℕ → ℕ → Message → Type 0
Fine o v now (Going passed asked) = Sent v now asked
Fine o v now (Coming left asked (Whole given)) = Good o v asked given
Fine o v now (Coming left asked (NotModified version date head)) = Confirms o v asked version date head
Fine o v now Nothing = ⊤

abbrev pub FinePass : Origin → ℕ → ℕ → (ℕ → Node) → Pass → Type 0
FinePass o v now nodes (At place Waits) = Sent v now place.asked
FinePass o v now nodes (At place GivesStored) =
    Sent v now place.asked × Remembers o v (nodes place.cache) place.which place.asked
FinePass o v now nodes (At place (Completes version date head)) = Confirms o v place.asked version date head
FinePass o v now nodes (At place (Gives given)) = Good o v place.asked given
FinePass o v now nodes Ended = ⊤

abbrev pub FineStored : Origin → ℕ → Stored → Type 0
FineStored o v one =
    (one.given.version ≤ v) × (may_store one.request one.given.answer.head ≡ true) × IsFor o one.given one.request

abbrev pub IsIn : Origin → ℕ → Node → ℕ → Stored → Type 0
IsIn o v node k one = (k < node.next) × FineStored o v one

abbrev pub FineNode : Origin → ℕ → Node → Type 0
FineNode o v node = (k : ℕ) → IfFound (IsIn o v node k) (with_number k node.stored)

pub record Holds (o : Origin) (w : World) : Type 0 where
  pub messages : (k : ℕ) → Fine o w.version w.now (nth Nothing w.messages k)
  pub passes : (k : ℕ) → FinePass o w.version w.now w.nodes (nth Ended w.passes k)
  pub nodes : (cache : ℕ) → FineNode o w.version (w.nodes cache)
  pub received : (one : Received) → Has w.received one → Good o w.version one.asked one.given

module _ (o : Origin) where
  -- what is an answer to a request may be given to another that matches it
  passed_on : (given : Dated) (r s : Request) → IsFor o given r → may_store r given.answer.head ≡ true
      → matches given.answer.head r s ≡ true → IsFor o given s
  passed_on given r s is may match = grind (arith, matches-first)

  -- a stored answer may be sent without validation
  usable_good : (v now k : ℕ) (node : Node) (asked : Asked) (found : Option Stored) → IfFound (IsIn o v node k) found
      → asked.time ≤ now → is_usable now asked.request found ≡ true → IfFound (λ one. Good o v asked one.given) found
  usable_good v now k node asked None stored time usable = tt
  usable_good v now k node asked (Some one) stored time usable =
      grind (arith, nat_tests, passed_on one.given one.request asked.request)

  fine_if : (v : ℕ) (b : Bool) (r : Request) (given : Dated) (node : Node) → FineNode o v node
      → (b ≡ true → FineStored o v (record { number = node.next; request = r; given = given }))
      → FineNode o v (cond b (with_stored r given node) node)
  fine_if v b r given node fine new = grind arith

  -- what is an answer to the one may be stored for the other
  renewable : (given : Dated) (first r : Request) → IsFor o given r
      → is_renewable Right first r given.answer.head ≡ true
      → (may_store first given.answer.head ≡ true) × IsFor o given first
  renewable given first r is renews = grind (arith, passed_on given r first, matches-sym given.answer.head first r)

  same_target : (given : Dated) (r : Request) (is : IsFor o given r) → is.0.target ≡ r.target
  same_target given r is = grind arith

  module _ {w : World} (holds : Holds o w) where
    -- by strong tags the stored content is that of the answer which a 304 is about
    looks_fine : HasStrongTags o → (p : Pass) → FinePass o w.version w.now w.nodes p
        → FinePass o w.version w.now w.nodes (looks Right w p)
    looks_fine strong p fine = grind (arith, same_target, bytes_eq-Decides, holds.nodes)

    stores_kept : (p q : Pass) → FinePass o w.version w.now w.nodes p
        → FinePass o w.version w.now (nodes_after Right q w.nodes) p
    stores_kept p q fine = grind arith

    stores_fine : (p : Pass) → FinePass o w.version w.now w.nodes p → (cache : ℕ)
        → FineNode o w.version (nodes_after Right p w.nodes cache)
    stores_fine p fine = grind arith

    freshens_kept : (p q : Pass) (which : ℕ) → FinePass o w.version w.now w.nodes p
        → FinePass o w.version w.now (nodes_freshened Right which q w.nodes) p
    freshens_kept p q which fine = grind arith

    freshened_fine : (r : Request) (given : Dated) (node : Node) (found : Option Stored) → given.version ≤ w.version
        → IsFor o given r → FineNode o w.version node → FineNode o w.version (freshened Right r given found node)
    freshened_fine r given node found le is fine = grind (arith, renewable given, fine_if)

    freshens_fine : (p : Pass) (which : ℕ) → FinePass o w.version w.now w.nodes p → (cache : ℕ)
        → FineNode o w.version (nodes_freshened Right which p w.nodes cache)
    freshens_fine p which fine cache = grind (arith, freshened_fine)

    reply_fine : (v : ℕ) (left : List Hop) (asked : Asked) (whole : Bool) (given : Dated) → Good o v asked given
        → Fine o v w.now (Coming left asked (reply_of whole given))
    reply_fine v left asked true given good = good
    reply_fine v left asked false given good = (given.answer.content, good)

    replies_fine : (whole : Bool) (p : Pass) → FinePass o w.version w.now w.nodes p
        → Fine o w.version w.now (replies Right w whole p)
    replies_fine whole (At place (Gives given)) good = reply_fine w.version place.left place.asked whole given good
    replies_fine whole (At place GivesStored) fine =
        (elim (with_number place.which (w.nodes place.cache).stored) as (λ found.
        IfFound (λ one. Good o w.version place.asked one.given) found
        → Fine o w.version w.now (reply_stored place whole found)) [
          | None ↦ λ h. tt
          | Some one ↦ reply_fine w.version place.left place.asked whole one.given
        ]) fine.1.1
    replies_fine whole other fine = tt

    answers_fine : (m : Message) → Fine o w.version w.now m → Fine o w.version w.now (answers o false w m)
    answers_fine (Going passed asked) sent = reply_fine w.version passed asked false (answered o w asked.request)
        (le_refl _, inl sent.0, (asked.request, refl, inl refl))
    answers_fine m fine = tt

  -- ---- runs

  abbrev pub setting : Clients → Setting
  setting asks = record { kind = Right; origin = o; clients = asks }

  module _ (asks : Clients) (strong : HasStrongTags o) where
    happens-holds : (w : World) (event : Event) → Holds o w → Holds o (happens (setting asks) w event)
    happens-holds w Ticks holds = grind arith
    happens-holds w Changes holds = grind arith
    happens-holds w (Sends client number) holds = grind (arith, nth_push)
    happens-holds w (Begins message cache which) holds = grind (arith, nth_push, usable_good)
    happens-holds w (Asks pass) holds = grind (arith, nth_push)
    happens-holds w (Answers message) holds = grind (arith, nth_push)
    happens-holds w (AnswersNotModified message) holds = grind (arith, nth_push, answers_fine holds)
    happens-holds w (Returns message) holds = grind (arith, nth_push)
    happens-holds w (Looks pass) holds = grind (arith, nth_push, looks_fine holds strong)
    happens-holds w (Stores pass) holds = grind (arith, stores_kept holds, stores_fine holds)
    happens-holds w (Freshens pass which) holds = grind (arith, freshens_kept holds, freshens_fine holds)
    happens-holds w (Replies pass whole) holds = grind (arith, nth_push, replies_fine holds)
    happens-holds w (Forgets cache which) holds = grind (arith, number_without)
    happens-holds w (Arrives message) holds = grind arith

    run-holds : (events : List Event) (w : World) → Holds o w → Holds o (run_from (setting asks) events w)
    run-holds [] w holds = holds
    run-holds (event ∷ events) w holds = run-holds events (happens (setting asks) w event) (happens-holds w event holds)

    pub always : (events : List Event) → Holds o (run (setting asks) events)
    always events = run-holds events start (grind arith)
