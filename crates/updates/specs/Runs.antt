-- Runs that show that the theorems aren't vacuous, and that each of their premises is needed. The numbers at the end
-- of a line are the places of the messages that its events send.
use Rattle.std.specs.Prelude.{ℕ, Bool, true, false, List, [], ◌∷◌, ◌++◌, ◌==◌, if◌then◌else◌, codes, Some, None}
use Rattle.updates.{specs.Events.{Event, Guard}, specs.Events.Guard.ByTag, specs.Events.Event.{SendsGet, SendsPut}}
use Rattle.updates.specs.Events.Event.{Forwards, Serves, Answers, AnswersTag, Freshens, Returns, Arrives}
use Rattle.updates.{specs.Statements.Routes, specs.Worlds.{Response, Received, Version, client_of}}

abbrev pub ann : ℕ
ann = 1

abbrev pub bob : ℕ
bob = 2

abbrev pub carl : ℕ
carl = 3

abbrev pub cache : ℕ
cache = 7

-- the responses to a client, the latest first
abbrev pub told : ℕ → List Received → List Response
told client [] = []
told client (one ∷ earlier) =
    (if client_of one.request == client then one.response ∷ [] else []) ++ told client earlier

-- versions with this number as their tag, all of the same second
abbrev pub numbered : ℕ → List ℕ → List ℕ → Version
numbered number etag content = record { number = number; content = content; etag = etag; modified = 0 }

abbrev pub milk : Version
milk = numbered 0 (codes "0") (codes "milk")

abbrev pub eggs : Version
eggs = numbered 1 (codes "1") (codes "milk, eggs")

abbrev pub bread : Version
bread = numbered 2 (codes "2") (codes "milk, eggs, bread")

-- the client reads through the cache, which stores the response
abbrev pub reads_through : ℕ → List Event
reads_through client =
    SendsGet client ∷ Forwards 0 cache ∷ Answers 1 [] false ∷ Returns 2 false true ∷ Arrives 3 ∷ []  -- 0 to 3

-- Ann reads past the cache
abbrev pub ann_reads : List Event
ann_reads = SendsGet ann ∷ Answers 0 [] false ∷ Arrives 1 ∷ []  -- 0, 1

-- Ann reads through the cache, and writes through it. Does it remove what it has stored?
abbrev pub writes_through : Bool → List Event
writes_through removes =
    reads_through ann
    ++ SendsPut ann 0 ByTag (codes "milk, eggs") ∷ Forwards 4 cache ∷ Answers 5 (codes "1") false  -- 4 to 6
    ∷ Returns 6 removes false ∷ Arrives 7 ∷ []  -- 7

-- ---- guarded updates

-- A stale cache, a success, a 412, a second try, and a PUT that comes twice.
abbrev pub guarded : List Event
guarded =
    -- Ann reads through the cache. Bob gets from there what it stored.
    reads_through ann
    ++ SendsGet bob ∷ Serves 4 cache 0 ∷ Arrives 5  -- 4, 5
    -- Ann changes it, by another way. The cache doesn't learn of that, and Carl gets the old version.
    ∷ SendsPut ann 0 ByTag (codes "milk, eggs") ∷ Answers 6 (codes "1") false ∷ Arrives 7  -- 6, 7
    ∷ SendsGet carl ∷ Serves 8 cache 0 ∷ Arrives 9  -- 8, 9
    -- Bob changes what he has read, and is told 412.
    ∷ SendsPut bob 0 ByTag (codes "milk, bread") ∷ Forwards 10 cache ∷ Answers 11 (codes "2") false  -- 10 to 12
    ∷ Returns 12 false false ∷ Arrives 13  -- 13
    -- He reads again, past the cache, and changes that. The PUT comes twice, and is performed once.
    ∷ SendsGet bob ∷ Answers 14 [] false ∷ Arrives 15 ∷ SendsPut bob 0 ByTag (codes "milk, eggs, bread")  -- 14 to 16
    ∷ Answers 16 (codes "2") false ∷ Answers 16 (codes "3") false ∷ Arrives 17 ∷ []  -- 17, 18

-- ---- validation

-- The cache validates what it has stored, and serves it to Bob. It does so again when that has changed, and has nothing
-- to serve.
abbrev pub validating : List Event
validating =
    reads_through ann
    ++ SendsGet bob ∷ Forwards 4 cache ∷ AnswersTag 5 ∷ Freshens 6 0 ∷ Arrives 7  -- 4 to 7
    ∷ SendsPut ann 0 ByTag (codes "milk, eggs") ∷ Answers 8 (codes "1") false  -- 8, 9
    ∷ SendsGet carl ∷ Forwards 10 cache ∷ AnswersTag 11 ∷ Freshens 12 0 ∷ []  -- 10 to 12

-- ---- without If-Match

-- Ann and Bob read the same version, and each sends what he or she made of it, all in one second.
abbrev pub both_change : Guard → List Event
both_change guard =
    ann_reads
    ++ SendsGet bob ∷ Answers 2 [] false ∷ Arrives 3  -- 2, 3
    ∷ SendsPut ann 0 guard (codes "milk, eggs") ∷ SendsPut bob 0 guard (codes "milk, bread")  -- 4, 5
    ∷ Answers 4 (codes "1") false ∷ Answers 5 (codes "2") false ∷ []  -- 6, 7

-- ---- tags that come again

-- a tag that is made of the content alone
abbrev pub digested : List ℕ → Version
digested content = numbered 0 content content

-- Bob takes Ann's change back. Ann's PUT comes again, and is performed again.
abbrev pub taken_back : List Event
taken_back =
    ann_reads
    ++ SendsPut ann 0 ByTag (codes "eggs") ∷ Answers 2 (codes "eggs") false  -- 2, 3
    ∷ SendsGet bob ∷ Answers 4 [] false ∷ Arrives 5  -- 4, 5
    ∷ SendsPut bob 0 ByTag (codes "milk") ∷ Answers 6 (codes "milk") false  -- 6, 7
    ∷ Answers 2 (codes "eggs") false ∷ []  -- 8

-- ---- a PUT that is sent again

-- The response to Ann's PUT is lost. It is sent again: she is told 412, or 204 by a server that sees that the content
-- is there.
abbrev pub sent_again : Bool → List Event
sent_again says_applied =
    ann_reads
    ++ SendsPut ann 0 ByTag (codes "milk, eggs") ∷ Answers 2 (codes "1") false  -- 2, 3
    ∷ Answers 2 (codes "2") says_applied ∷ Arrives 4 ∷ []  -- 4

-- ---- one's own writes

-- all clients are behind the cache, and that before the origin server
abbrev pub one_cache : Routes
one_cache = record { first = λ client. Some cache; next = λ node. None }

-- Ann reads, writes and reads again through the cache, as the theorem asks.
abbrev pub as_asked : List Event
as_asked =
    writes_through true
    ++ SendsGet ann ∷ Forwards 8 cache ∷ Answers 9 [] false ∷ Returns 10 false true ∷ Arrives 11 ∷ []  -- 8 to 11

-- The cache removes nothing when she writes.
abbrev pub without_removing : List Event
without_removing = writes_through false ++ SendsGet ann ∷ Serves 8 cache 0 ∷ Arrives 9 ∷ []  -- 8, 9

-- A response to Bob is under way while Ann writes through the cache, which removes what it has stored. Then it comes,
-- and is stored.
abbrev pub storing_late : List Event
storing_late =
    SendsGet bob ∷ Forwards 0 cache ∷ Answers 1 [] false  -- 0 to 2
    ∷ SendsGet ann ∷ Forwards 3 cache ∷ Answers 4 [] false ∷ Returns 5 false false ∷ Arrives 6  -- 3 to 6
    ∷ SendsPut ann 0 ByTag (codes "milk, eggs") ∷ Forwards 7 cache ∷ Answers 8 (codes "1") false  -- 7 to 9
    ∷ Returns 9 true false ∷ Arrives 10 ∷ Returns 2 false true  -- 10, 11
    ∷ SendsGet ann ∷ Serves 12 cache 0 ∷ Arrives 13 ∷ []  -- 12, 13

-- Ann reads through the cache, writes past it, and reads through it again.
abbrev pub by_two_ways : List Event
by_two_ways =
    reads_through ann
    ++ SendsPut ann 0 ByTag (codes "milk, eggs") ∷ Answers 4 (codes "1") false ∷ Arrives 5  -- 4, 5
    ∷ SendsGet ann ∷ Serves 6 cache 0 ∷ Arrives 7 ∷ []  -- 6, 7
