-- Two runs that differ in secrets: what is the same in both, and that each event keeps it so.
use Rattle.std.proofs.Common.{◌≡◌, ℕ, Bool, true, false, List, [], ◌∷◌, Option, Some, None, refl, arith, inl, inr, ◌⊎◌}
use Rattle.{std.{proofs.{Common.length, lemmas.List.length-append}, specs.Prelude.⊤}, interference.specs.Events.nth}
use Rattle.interference.specs.Events.{with_number, is_usable, is_renewable, Event, Event.{Answers, Forgets, Ticks}}
use Rattle.interference.specs.Events.{Event.{Changes, Sends}, Setting, happens, run_from, run, begins, asks_on}
use Rattle.interference.specs.Events.{comes_back, looks, completed, content_of, nodes_after, nodes_freshened, freshened}
use Rattle.interference.specs.Events.{replies, arrives, changed_by, answers, message_at, sends, goes_on}
use Rattle.interference.specs.Statements.{Alike, DifferInPrivate, DifferInSecrets, NamesNone, NoVaryNamesASecret}
use Rattle.interference.specs.{Statements.VariesByNone, Worlds.{Request, Storing, Storing.{NotShared, Shared}, Head}}
use Rattle.interference.specs.Worlds.{Origin, Dated, Stored, Node, Asked, Reply, Reply.{Whole, NotModified}, Message}
use Rattle.interference.specs.Worlds.{Message.{Going, Coming, Nothing}, Place, Doing, Doing.{Completes, Gives}, Pass}
use Rattle.interference.specs.Worlds.{Pass.{At, Ended}, Received, Clients, World, may_store, agree, agree_as, start}
use Rattle.interference.{specs.Worlds.{told, Kind.Right}, proofs.Lists.{nth_push, number_without}}

-- ---- requests that are alike

module _ {secret : List ℕ → Bool} where
  alike_agree : (vary : List (List ℕ)) (q q' r r' : Request) → NamesNone secret vary → Alike secret q q'
      → Alike secret r r' → agree vary q r ≡ agree vary q' r'
  alike_agree [] q q' r r' public a b = refl
  alike_agree (n ∷ vary) q q' r r' public a b =
      cc (a.fields n public.0, b.fields n public.0, alike_agree vary q q' r r' public.1 a b)

  alike_agree_as : (s : Storing) (q q' r r' : Request) → VariesByNone secret s → Alike secret q q'
      → Alike secret r r' → agree_as s q r ≡ agree_as s q' r'
  alike_agree_as NotShared q q' r r' public a b = refl
  alike_agree_as (Shared vary even) q q' r r' public a b = alike_agree vary q q' r r' public a b

abbrev head_of : Reply → Head
head_of (Whole given) = given.answer.head
head_of (NotModified version date head) = head

module _ (watches : ℕ → Bool) (secret : List ℕ → Bool) (origin other : Origin) (asks others : Clients)
    (requests : DifferInSecrets watches secret asks others)
    (answers_differ : DifferInPrivate watches secret asks origin other) (vary : NoVaryNamesASecret secret origin) where
  -- ---- what is the same

  -- the requests are alike, and a watcher's are answered the same
  abbrev Twin : Asked → Asked → Type 0
  Twin a b = (a.client ≡ b.client) × Alike secret a.request b.request
      × (watches a.client ≡ true → (v : ℕ) → origin v a.request ≡ other v b.request)

  abbrev IsPublic : Request → Head → Type 0
  IsPublic q head = may_store q head ≡ true → VariesByNone secret head.storing

  -- to another client, and not to be stored
  abbrev IsQuiet : Asked → Head → Type 0
  IsQuiet a head = (watches a.client ≡ false) × (may_store a.request head ≡ false)

  abbrev QuietMessage : Message → Type 0
  QuietMessage (Going passed a) = ⊥
  QuietMessage (Coming left a reply) = IsQuiet a (head_of reply)
  QuietMessage Nothing = ⊤

  abbrev SameMessage : Message → Message → Type 0
  SameMessage (Going passed a) (Going passed' b) = (passed ≡ passed') × Twin a b
  SameMessage (Coming left a reply) (Coming left' b reply') =
      (left ≡ left') × (reply ≡ reply') × Twin a b × IsPublic a.request (head_of reply)
  SameMessage m n = ⊥

  abbrev TwinMessage : Message → Message → Type 0
  TwinMessage m n = SameMessage m n ⊎ (QuietMessage m × QuietMessage n)

  abbrev QuietPass : Pass → Type 0
  QuietPass (At place (Completes version date head)) = IsQuiet place.asked head
  QuietPass (At place (Gives given)) = IsQuiet place.asked given.answer.head
  QuietPass (At place doing) = ⊥
  QuietPass Ended = ⊤

  abbrev PublicDoing : Request → Doing → Type 0
  PublicDoing q (Completes version date head) = IsPublic q head
  PublicDoing q (Gives given) = IsPublic q given.answer.head
  PublicDoing q doing = ⊤

  abbrev SamePass : Pass → Pass → Type 0
  SamePass (At p doing) (At q doing') =
      (p.cache ≡ q.cache) × (p.which ≡ q.which) × (p.left ≡ q.left) × Twin p.asked q.asked × (doing ≡ doing')
      × PublicDoing p.asked.request doing
  SamePass p q = ⊥

  abbrev TwinPass : Pass → Pass → Type 0
  TwinPass p q = SamePass p q ⊎ (QuietPass p × QuietPass q)

  abbrev TwinFound : Option Stored → Option Stored → Type 0
  TwinFound None None = ⊤
  TwinFound (Some a) (Some b) =
      (a.given ≡ b.given) × Alike secret a.request b.request × VariesByNone secret a.given.answer.head.storing
  TwinFound f g = ⊥

  abbrev TwinNode : Node → Node → Type 0
  TwinNode a b = (a.next ≡ b.next) × ((k : ℕ) → TwinFound (with_number k a.stored) (with_number k b.stored))

  record TwinWorld (w v : World) : Type 0 where
    now : w.now ≡ v.now
    version : w.version ≡ v.version
    sent : length w.messages ≡ length v.messages
    messages : (k : ℕ) → TwinMessage (nth Nothing w.messages k) (nth Nothing v.messages k)
    went_on : length w.passes ≡ length v.passes
    passes : (k : ℕ) → TwinPass (nth Ended w.passes k) (nth Ended v.passes k)
    nodes : (n : ℕ) → TwinNode (w.nodes n) (v.nodes n)
    told_same : (c : ℕ) → watches c ≡ true → told c w.received ≡ told c v.received

  -- ---- what a cache may do for both

  alike_usable : (now : ℕ) (q r : Request) (f g : Option Stored) → Alike secret q r → TwinFound f g
      → is_usable now q f ≡ is_usable now r g
  alike_usable now q r f g alike same = grind (arith, alike_agree_as)

  alike_renewable : (q q' r r' : Request) (head : Head) → IsPublic r head → Alike secret q q'
      → Alike secret r r' → is_renewable Right q r head ≡ is_renewable Right q' r' head
  alike_renewable q q' r r' head public a b = grind (arith, alike_agree_as)

  begins_twin : (cache which : ℕ) (w v : World) (m n : Message) → w.now ≡ v.now
      → TwinNode (w.nodes cache) (v.nodes cache) → TwinMessage m n
      → TwinPass (begins Right w cache which m) (begins Right v cache which n)
  begins_twin cache which w v m n time nodes twin = grind (arith, alike_usable)

  asks_twin : (p q : Pass) → TwinPass p q → TwinMessage (asks_on p) (asks_on q)
  asks_twin p q twin = grind arith

  back_twin : (m n : Message) → TwinMessage m n → TwinPass (comes_back m) (comes_back n)
  back_twin m n twin = grind arith

  completed_twin : (p q : Place) (given given' : Dated) (f g : Option Stored) → Twin p.asked q.asked
      → SamePass (At p (Gives given)) (At q (Gives given')) → TwinFound f g
      → TwinPass (completed p given f) (completed q given' g)
  completed_twin p q given given' f g twin same found = grind arith

  completed_quiet : (p : Place) (given : Dated) (f : Option Stored) → IsQuiet p.asked given.answer.head
      → QuietPass (completed p given f)
  completed_quiet p given f quiet = grind arith

  looks_quiet : (w : World) (p : Pass) → QuietPass p → QuietPass (looks Right w p)
  looks_quiet w p quiet = grind (arith, completed_quiet)

  content_twin : (f g : Option Stored) → TwinFound f g → content_of f ≡ content_of g
  content_twin f g found = grind arith

  looks_twin : (w v : World) (p q : Pass) → ((n : ℕ) → TwinNode (w.nodes n) (v.nodes n)) → TwinPass p q
      → TwinPass (looks Right w p) (looks Right v q)
  looks_twin w v (At p (Completes version date head)) (At q (Completes version' date' head')) nodes (inl same) =
      let f = with_number p.which (w.nodes p.cache).stored in
      let g = with_number q.which (v.nodes q.cache).stored in
      grind (arith, completed_twin p q, content_twin f g, (nodes p.cache).1 p.which)
  looks_twin w v p q nodes (inr quiet) = inr (looks_quiet w p quiet.0, looks_quiet v q quiet.1)
  looks_twin w v p q nodes twin = grind arith

  stores_twin : (w v : ℕ → Node) (p q : Pass) → ((n : ℕ) → TwinNode (w n) (v n)) → TwinPass p q
      → (n : ℕ) → TwinNode (nodes_after Right p w n) (nodes_after Right q v n)
  stores_twin w v p q nodes twin n = grind (arith, nodes n)

  freshened_twin : (q r : Request) (given : Dated) (f g : Option Stored) (a b : Node) → Alike secret q r
      → IsPublic q given.answer.head → TwinFound f g → TwinNode a b
      → TwinNode (freshened Right q given f a) (freshened Right r given g b)
  freshened_twin q r given (Some one) (Some another) a b alike public same nodes =
      grind (arith, alike_renewable one.request another.request q r given.answer.head public same.1 alike)
  freshened_twin q r given f g a b alike public same nodes = grind arith

  freshened_quiet : (a : Asked) (given : Dated) (f : Option Stored) (node : Node) → IsQuiet a given.answer.head
      → freshened Right a.request given f node ≡ node
  freshened_quiet a given f node quiet = grind arith

  freshens_quiet : (which : ℕ) (nodes : ℕ → Node) (p : Pass) (n : ℕ) → QuietPass p
      → nodes_freshened Right which p nodes n ≡ nodes n
  freshens_quiet which nodes p n quiet = grind (arith, freshened_quiet)

  freshens_twin : (which : ℕ) (w v : ℕ → Node) (p q : Pass) → ((n : ℕ) → TwinNode (w n) (v n)) → TwinPass p q
      → (n : ℕ) → TwinNode (nodes_freshened Right which p w n) (nodes_freshened Right which q v n)
  freshens_twin which w v (At p (Gives given)) (At q (Gives given')) nodes (inl same) n =
      let f = with_number which (w n).stored in
      let g = with_number which (v n).stored in
      grind (arith, nodes n, freshened_twin p.asked.request q.asked.request given f g (w n) (v n))
  freshens_twin which w v p q nodes (inr quiet) n =
      rw (freshens_quiet which w p n quiet.0, freshens_quiet which v q n quiet.1) (nodes n)
  freshens_twin which w v p q nodes twin n = grind (arith, nodes n)

  replies_twin : (w v : World) (whole : Bool) (p q : Pass) → ((n : ℕ) → TwinNode (w.nodes n) (v.nodes n))
      → TwinPass p q → TwinMessage (replies Right w whole p) (replies Right v whole q)
  replies_twin w v whole p q nodes twin = grind arith

  arrives_twin : (m n : Message) (got got' : List Received) → TwinMessage m n
      → ((c : ℕ) → watches c ≡ true → told c got ≡ told c got') → (c : ℕ) → watches c ≡ true
      → told c (arrives m got) ≡ told c (arrives n got')
  arrives_twin m n got got' twin same c seen = grind arith

  changed_same : (m n : Message) (v : ℕ) → TwinMessage m n → changed_by m v ≡ changed_by n v
  changed_same m n v twin = grind arith

  answers_twin : (w v : World) (whole : Bool) (m n : Message) → w.now ≡ v.now → w.version ≡ v.version
      → TwinMessage m n → TwinMessage (answers origin whole w m) (answers other whole v n)
  answers_twin w v whole m n now version twin = grind (arith, answers_differ.alike, vary)

  asked_twin : (client number version now : ℕ) (got got' : List Dated) → (watches client ≡ true → got ≡ got')
      → TwinMessage
      (Going [] (record { client = client; request = asks client number got; version = version; time = now }))
      (Going [] (record { client = client; request = others client number got'; version = version; time = now }))
  asked_twin client number version now got got' same = grind (arith, requests, answers_differ)

  -- ---- runs

  abbrev pub left_of : Setting
  left_of = record { kind = Right; origin = origin; clients = asks }

  abbrev pub right_of : Setting
  right_of = record { kind = Right; origin = other; clients = others }

  sends_twin : (w v : World) (m n : Message) → TwinMessage m n → TwinWorld w v → TwinWorld (sends m w) (sends n v)
  sends_twin w v m n same twin = grind (arith, nth_push, length-append)

  goes_on_twin : (w v : World) (p q : Pass) → TwinPass p q → TwinWorld w v → TwinWorld (goes_on p w) (goes_on q v)
  goes_on_twin w v p q same twin = grind (arith, nth_push, length-append)

  ruleset steps = (
    sends_twin,
    goes_on_twin,
    begins_twin,
    asks_twin,
    answers_twin,
    back_twin,
    looks_twin,
    stores_twin,
    freshens_twin,
    replies_twin,
    arrives_twin,
  )

  happens_twin : (w v : World) (event : Event) → TwinWorld w v
      → TwinWorld (happens left_of w event) (happens right_of v event)
  happens_twin w v Ticks twin = grind arith
  happens_twin w v Changes twin = grind arith
  happens_twin w v (Forgets cache which) twin = grind (arith, number_without)
  happens_twin w v (Sends client number) twin =
      sends_twin w v _ _ (asked_twin client number w.version w.now _ _ (twin.told_same client)) twin
  happens_twin w v (Answers message) twin =
      let m = message_at w message in
      let n = message_at v message in
      let after : TwinWorld (record w { version = changed_by m w.version })
      (record v { version = changed_by n v.version }) =
      grind (arith, changed_same m n w.version (twin.messages message)) in
      search (steps, after, twin.messages)
  happens_twin w v event twin = search (steps, twin.messages, twin.passes, twin.nodes)

  run_twin : (events : List Event) (w v : World) → TwinWorld w v
      → TwinWorld (run_from left_of events w) (run_from right_of events v)
  run_twin [] w v twin = twin
  run_twin (event ∷ events) w v twin = run_twin events _ _ (happens_twin w v event twin)

  pub interferes_not : (events : List Event) (c : ℕ) → watches c ≡ true
      → told c (run left_of events).received ≡ told c (run right_of events).received
  interferes_not events = (run_twin events start start (grind arith)).told_same
