-- Runs that show that the theorems aren't vacuous, and that each of their premises is needed. At the end of a line are
-- the places of the messages (m) and passes (p) that its events add.
use Rattle.std.specs.Prelude.{ℕ, zero, suc, Bool, true, false, List, [], ◌∷◌, ◌++◌, ◌==◌, if◌then◌else◌, Option, Some}
use Rattle.{std.specs.Prelude.{None, bytes_eq}, interference.specs.Events.{Event, Event.{Ticks, Changes, Sends}}}
use Rattle.interference.specs.Events.Event.{Begins, Asks, Answers, AnswersNotModified, Returns, Looks, Stores, Freshens}
use Rattle.interference.specs.{Events.{Event.{Replies, Arrives}, Setting}, Worlds.{Request, Storing, Storing.NotShared}}
use Rattle.interference.specs.Worlds.{Storing.Shared, Answer, Origin, Dated, Kind, Clients, authorization, cookie}

abbrev pub ann : ℕ
ann = 1

abbrev pub bob : ℕ
bob = 2

abbrev pub carl : ℕ
carl = 3

abbrev pub cache : ℕ
cache = 7

abbrev pub with_caches : Kind → Origin → Clients → Setting
with_caches kind origin clients = record { kind = kind; origin = origin; clients = clients }

-- ---- requests

abbrev pub get : (target : ℕ) → (cookies credentials : Option (List ℕ)) → Request
get target cookies credentials =
    record {
      is_get = true;
      target = target;
      fields =
          λ name.
          if bytes_eq name cookie then cookies else (if bytes_eq name authorization then credentials else None);
    }

-- each client sends a cookie of its own, and asks for the target with the number
abbrev pub by_cookies : Clients
by_cookies client number told = get number (Some (client ∷ [])) None

-- the same, but Bob's cookie is this
abbrev pub with_bobs : List ℕ → Clients
with_bobs bobs client number told = get number (Some (if client == bob then bobs else client ∷ [])) None

-- each client has credentials of its own, but Carl has none
abbrev pub by_credentials : Clients
by_credentials client number told = get number None (if client == carl then None else Some (client ∷ []))

-- nobody has credentials but Bob, if so
abbrev pub if_bob : Bool → Clients
if_bob has client number told = get number None (if has then
    (if client == bob then Some (bob ∷ []) else None) else None)

-- ---- origin servers

abbrev pub value : Option (List ℕ) → List ℕ
value None = []
value (Some text) = text

-- with the content as its tag, fresh for a second
abbrev pub answer : Storing → List ℕ → Answer
answer storing content =
    record { head = record { etag = content; storing = storing; lifetime = 1; others = [] }; content = content }

-- for all
abbrev pub news : Origin
news version request = answer (Shared [] true) (version ∷ [])

-- a page for each cookie, which says so
abbrev pub pages : Origin
pages version request = answer (Shared (cookie ∷ []) true) (value (request.fields cookie))

abbrev pub private_pages : Origin
private_pages version request = answer NotShared (value (request.fields cookie))

-- a page for each cookie, which doesn't say so
abbrev pub forgets_vary : Origin
forgets_vary version request = answer (Shared [] true) (value (request.fields cookie))

-- all of its pages have one tag
abbrev pub one_tag : Origin
one_tag version request =
    record {
      head = record { etag = []; storing = Shared (cookie ∷ []) true; lifetime = 1; others = [] };
      content = value (request.fields cookie);
    }

-- the news at target 0, pages at 1, private pages at all others
abbrev pub at_target : ℕ → Origin
at_target zero = news
at_target (suc zero) = pages
at_target (suc (suc target)) = private_pages

abbrev pub site : Origin
site version request = at_target request.target version request

-- the news at target 0, private pages at all others
abbrev pub plain_at : ℕ → Origin
plain_at zero = news
plain_at (suc target) = private_pages

abbrev pub plain : Origin
plain version request = plain_at request.target version request

-- a page for each member, which it lets nobody share: it relies on RFC 9111, section 3.5
abbrev pub for_members : Option (List ℕ) → Storing
for_members None = NotShared
for_members (Some credentials) = Shared [] false

abbrev pub members : Origin
members version request =
    answer (for_members (request.fields authorization)) (value (request.fields authorization))

-- the same, but also for those who are no members
abbrev pub greetings : Origin
greetings version request = answer (Shared [] false) (value (request.fields authorization))

-- the same for all, and not to be stored with Authorization
abbrev pub open_news : Origin
open_news version request = answer (Shared [] false) (version ∷ [])

-- the same for all, but it says otherwise
abbrev pub cautious : Origin
cautious version request = answer (Shared (cookie ∷ []) true) (version ∷ [])

-- at first the same for all; then it is a page for each cookie, and that of Bob is the same as before
abbrev pub turned : ℕ → Origin
turned zero version request = answer (Shared [] true) (bob ∷ [])
turned (suc n) version request = answer (Shared (cookie ∷ []) true) (value (request.fields cookie))

abbrev pub turns : Origin
turns version request = turned version version request

-- all with one tag: at first a page for each cookie, then the same for all
abbrev pub shrunk : ℕ → Origin
shrunk zero version request = one_tag version request
shrunk (suc n) version request =
    record { head = record { etag = []; storing = Shared [] true; lifetime = 1; others = [] }; content = [] }

abbrev pub shrinks : Origin
shrinks version request = shrunk version version request

-- ---- a run with all that there is

abbrev pub dated : (version date : ℕ) → Answer → Dated
dated version date given = record { version = version; date = date; answer = given }

-- A cache asks for this client, and stores the answer, if it may.
abbrev pub stored_for : ℕ → ℕ → List Event
stored_for client number =
    Sends client number ∷ Begins 0 cache 0 ∷ Asks 0 ∷ Answers 1 ∷ Returns 2 ∷ Stores 1 ∷ []  -- m0, p0, m1, m2, p1

-- The news of Ann is stored, served to Bob, and validated for Carl. Private pages are fetched for each.
abbrev pub sharing : List Event
sharing =
    stored_for ann 0
    ++ Replies 1 true ∷ Arrives 3  -- m3
    ∷ Sends bob 0 ∷ Begins 4 cache 0 ∷ Replies 2 true ∷ Arrives 5  -- m4, p2, m5
    ∷ Ticks ∷ Ticks ∷ Sends carl 0 ∷ Begins 6 cache 0 ∷ Asks 3 ∷ AnswersNotModified 7  -- m6, p3, m7, m8
    ∷ Returns 8 ∷ Looks 4 ∷ Freshens 5 0 ∷ Replies 5 true ∷ Arrives 9  -- p4, p5, m9
    ∷ Sends ann 2 ∷ Begins 10 cache 2 ∷ Asks 6 ∷ Answers 11 ∷ Returns 12  -- m10, p6, m11, m12, p7
    ∷ Stores 7 ∷ Replies 7 true ∷ Arrives 13  -- m13
    ∷ Sends bob 2 ∷ Begins 14 cache 2 ∷ Asks 8 ∷ Answers 15 ∷ Returns 16  -- m14, p8, m15, m16, p9
    ∷ Replies 9 true ∷ Arrives 17 ∷ []  -- m17

-- ---- caches that are wrong

-- Bob's pass remembers his page, and before it sends that, Ann's page is stored.
abbrev pub overtaken : List Event
overtaken =
    stored_for bob 1
    ++ Sends bob 1 ∷ Begins 3 cache 0  -- m3, p2
    ∷ Sends ann 1 ∷ Begins 4 cache 1 ∷ Asks 3 ∷ Answers 5 ∷ Returns 6 ∷ Stores 4  -- m4, p3, m5, m6, p4
    ∷ Replies 2 true ∷ Arrives 7 ∷ []  -- m7

-- The private page of the first comes between that of the second and its sending.
abbrev pub once_each : (first second : ℕ) → List Event
once_each first second =
    Sends first 2 ∷ Begins 0 cache 0 ∷ Asks 0 ∷ Answers 1 ∷ Returns 2  -- m0, p0, m1, m2, p1
    ∷ Sends second 3 ∷ Begins 3 cache 0 ∷ Asks 2 ∷ Answers 4 ∷ Returns 5  -- m3, p2, m4, m5, p3
    ∷ Stores 3 ∷ Stores 1 ∷ Replies 3 true ∷ Arrives 6 ∷ []  -- m6

-- An answer to this client is stored, if it may be, and then that one asks.
abbrev pub then_asks : (first second : ℕ) → List Event
then_asks first second =
    stored_for first 0
    ++ Sends second 0 ∷ Begins 3 cache 0 ∷ Replies 2 true ∷ Arrives 4 ∷ []  -- m3, p2, m4

-- A request of this client is validated against what is stored.
abbrev pub validated_for : ℕ → List Event
validated_for client =
    Sends client 0 ∷ Begins 3 cache 0 ∷ Asks 2 ∷ AnswersNotModified 4 ∷ Returns 5  -- m3, p2, m4, m5, p3
    ∷ Looks 3 ∷ []  -- p4

-- Bob's is validated against Ann's.
abbrev pub then_validated : List Event
then_validated = stored_for ann 0 ++ validated_for bob ++ Replies 4 true ∷ Arrives 6 ∷ []  -- m6

-- Ann's answer is stored. It turns, and a 304 to Bob freshens it. Then Ann asks again.
abbrev pub freshened_by_bob : List Event
freshened_by_bob =
    stored_for ann 0
    ++ Changes ∷ Ticks ∷ Ticks ∷ validated_for bob
    ++ Freshens 4 0 ∷ Sends ann 0 ∷ Begins 6 cache 1 ∷ Replies 5 true ∷ Arrives 7 ∷ []  -- m6, p5, m7

-- Bob's answer is stored, and Ann's pass remembers it. It turns, and a 304 to Bob freshens it. Then Ann's pass goes on.
abbrev pub freshened_meanwhile : List Event
freshened_meanwhile =
    stored_for bob 0
    ++ Sends ann 0 ∷ Begins 3 cache 0 ∷ Changes ∷ Ticks ∷ Ticks  -- m3, p2
    ∷ Sends bob 0 ∷ Begins 4 cache 0 ∷ Asks 3 ∷ AnswersNotModified 5 ∷ Returns 6 ∷ Looks 4  -- m4, p3, m5, m6, p4, p5
    ∷ Freshens 5 0 ∷ Replies 2 true ∷ Arrives 7 ∷ []  -- m7

-- Ann's page is stored. It shrinks, Ann's page is validated for herself, and stored so. Then Bob asks.
abbrev pub validated_by_ann : List Event
validated_by_ann =
    stored_for ann 0
    ++ Changes ∷ Ticks ∷ Ticks ∷ validated_for ann
    ++ Stores 4 ∷ Sends bob 0 ∷ Begins 6 cache 1 ∷ Replies 5 true ∷ Arrives 7 ∷ []  -- m6, p5, m7

-- ---- two runs

-- Bob asks, and then Ann, and then Bob gets a private page.
abbrev pub with_a_private_page : List Event
with_a_private_page =
    then_asks bob ann
    ++ Sends bob 1 ∷ Begins 5 cache 0 ∷ Asks 3 ∷ Answers 6 ∷ Returns 7 ∷ Replies 4 true ∷ Arrives 8 ∷ []

abbrev pub is_ann : ℕ → Bool
is_ann client = client == ann

abbrev pub is_cookie : List ℕ → Bool
is_cookie name = bytes_eq name cookie

abbrev pub is_authorization : List ℕ → Bool
is_authorization name = bytes_eq name authorization
