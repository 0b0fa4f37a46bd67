-- Requests, what the origin server answers to them, and what shared caches store of that (RFC 9110; RFC 9111).
use Rattle.std.specs.Prelude.{ℕ, Bool, true, false, List, [], ◌∷◌, ◌+◌, ◌++◌, ◌==◌, ◌&&◌, ◌||◌, not, if◌then◌else◌}
use Rattle.std.specs.Prelude.{bytes_eq, codes, nat_le, Option, Some, None}

-- A request: the combined value of each field that it has (RFC 9110, section 5.2). Who sends it isn't in it.
pub record Request : Type 0 where
  pub is_get : Bool
  pub target : ℕ
  pub fields : List ℕ → Option (List ℕ)

abbrev pub cookie : List ℕ
cookie = codes "cookie"

abbrev pub authorization : List ℕ
authorization = codes "authorization"

-- ---- answers

-- How an answer may be stored (RFC 9111, section 3).
pub data Storing : Type 0 where
  -- private or no-store
  NotShared : Storing
  -- for requests that agree in the fields that Vary names; `even_authorized`: public, must-revalidate or s-maxage (3.5)
  Shared : (vary : List (List ℕ)) → (even_authorized : Bool) → Storing

-- An answer's fields, as a 304 has them too (RFC 9110, section 15.4.5). The lifetime is in seconds; `others` are all
-- that no cache reads, as Set-Cookie.
pub record Head : Type 0 where
  pub etag : List ℕ
  pub storing : Storing
  pub lifetime : ℕ
  pub others : List ℕ

pub record Answer : Type 0 where
  pub head : Head
  pub content : List ℕ

-- The origin server: its answer is any function of its version and the whole request.
abbrev pub Origin : Type 0
Origin = ℕ → Request → Answer

-- An answer, with the version and the time in which the origin server gave it, or confirmed it by a 304. The version is
-- no field, and nobody in a world reads it.
pub record Dated : Type 0 where
  pub version : ℕ
  pub date : ℕ
  pub answer : Answer

-- ---- what a shared cache may do

abbrev pub has_value : Option (List ℕ) → Bool
has_value None = false
has_value (Some value) = true

abbrev pub is_authorized : Request → Bool
is_authorized request = has_value (request.fields authorization)

abbrev pub is_allowed : (authorized : Bool) → Storing → Bool
is_allowed authorized NotShared = false
is_allowed authorized (Shared vary even_authorized) = not authorized || even_authorized

-- it may store this answer to this request (RFC 9111, sections 3 and 3.5)
abbrev pub may_store : Request → Head → Bool
may_store request head = request.is_get && is_allowed (is_authorized request) head.storing

abbrev pub same_value : Option (List ℕ) → Option (List ℕ) → Bool
same_value None None = true
same_value None (Some y) = false
same_value (Some x) None = false
same_value (Some x) (Some y) = bytes_eq x y

-- two requests agree in these fields (section 4.1)
abbrev pub agree : List (List ℕ) → Request → Request → Bool
agree [] q r = true
agree (name ∷ vary) q r = same_value (q.fields name) (r.fields name) && agree vary q r

abbrev pub agree_as : Storing → Request → Request → Bool
agree_as NotShared q r = false
agree_as (Shared vary even_authorized) q r = agree vary q r

-- an answer to the one is an answer to the other, by target and Vary
abbrev pub matches : Head → Request → Request → Bool
matches head q r = (q.target == r.target) && agree_as head.storing q r

-- section 4.2
abbrev pub is_fresh : (now : ℕ) → Dated → Bool
is_fresh now given = nat_le now (given.date + given.answer.head.lifetime)

-- A stored answer, with the request that it answers. A cache numbers what it stores.
pub record Stored : Type 0 where
  pub number : ℕ
  pub request : Request
  pub given : Dated

-- A shared cache: what it stores, the latest first, and the number of what it stores next. `slot` is for one of the
-- mistakes alone.
pub record Node : Type 0 where
  pub next : ℕ
  pub stored : List Stored
  pub slot : Option Dated

-- A cache that is right, and some that are not.
pub data Kind : Type 0 where
  Right : Kind
  -- it remembers a stored answer by its place
  ByPlace : Kind
  -- it puts an answer that it may not store in one slot until it is sent
  OneSlot : Kind
  -- it stores as if no request had Authorization
  IgnoresAuthorization : Kind
  -- it freshens a stored answer by one to a request that the new Vary tells from the first
  FreshensOthers : Kind
  -- it freshens a stored answer under its old number
  FreshensInPlace : Kind

-- ---- messages

-- A client's request, and in which version and at what time it was sent. These two are for statements alone.
pub record Asked : Type 0 where
  pub client : ℕ
  pub request : Request
  pub version : ℕ
  pub time : ℕ

-- a cache that has sent a request on, and the number of the stored answer that it remembers with it
pub record Hop : Type 0 where
  pub cache : ℕ
  pub which : ℕ

pub data Reply : Type 0 where
  Whole : Dated → Reply
  -- 304: the answer of this version has this head. Its content is that of a stored answer with the same tag.
  NotModified : (version date : ℕ) → Head → Reply

pub data Message : Type 0 where
  -- a request, and the caches that it has passed, the latest first
  Going : (passed : List Hop) → Asked → Message
  -- a reply, and the caches that it has still to pass
  Coming : (left : List Hop) → Asked → Reply → Message
  -- no message
  Nothing : Message

-- ---- passes: a request in a cache, between two of its steps

pub record Place : Type 0 where
  pub cache : ℕ
  pub which : ℕ
  pub left : List Hop
  pub asked : Asked

pub data Doing : Type 0 where
  -- what it remembers, if anything, is to be validated
  Waits : Doing
  -- what it remembers is fresh, and will be sent
  GivesStored : Doing
  -- a 304 has come
  Completes : (version date : ℕ) → Head → Doing
  -- this will be sent, and may be stored
  Gives : Dated → Doing

pub data Pass : Type 0 where
  At : Place → Doing → Pass
  Ended : Pass

-- ---- all of it

pub record Received : Type 0 where
  pub asked : Asked
  pub given : Dated

-- what a client has been given, the latest first: content, head, date and version
abbrev pub told : ℕ → List Received → List Dated
told client [] = []
told client (one ∷ earlier) = (if one.asked.client == client then one.given ∷ [] else []) ++ told client earlier

-- What each client asks, by number. It may depend on what the client has been told.
abbrev pub Clients : Type 0
Clients = (client number : ℕ) → List Dated → Request

pub record World : Type 0 where
  pub now : ℕ
  -- the origin server's version: it counts the changes
  pub version : ℕ
  -- each message that was ever sent, and each state in which a pass ever was, in order: any of them may come, or go on,
  -- at any time, again and again, or never
  pub messages : List Message
  pub passes : List Pass
  pub nodes : ℕ → Node
  -- what has reached clients, the latest first
  pub received : List Received

abbrev pub start : World
start =
    record {
      now = 0;
      version = 0;
      messages = [];
      passes = [];
      nodes = λ cache. record { next = 0; stored = []; slot = None };
      received = [];
    }
