-- Requests and responses of a shared store, as `interference` has them (RFC 9110; RFC 9111).
use Rattle.std.specs.Prelude.{◌≡◌, ℕ, ◌<◌, ◌≤◌, Bool, false, true, ◌&&◌, ◌||◌, not, List, [], ◌∷◌, length, map, Option}
use Rattle.std.specs.{Prelude.{None, Some, ⊤, bytes_eq, is_some, codes, if◌then◌else◌, unwrap_or}, List.list_all}
use Rattle.{http_header.specs.Token.lowercase, headers.specs.{LineMap.{Field, LineMap}, Lines.Line}}
use Rattle.rfc_fields.specs.{Members.{combined, field_members, is_whole}, Scan.{Member, Member.{Malformed, Whole}}}
use Rattle.{rfc_fields.specs.Values.is_token, cache_policy.specs.{Policies.{Policy, tells}, Requests.Request}}
use Rattle.cache_policy.specs.{Updating.{HasStrongTag, IsUpdated, tag_in}, Varying.{has_pairs, is_list_name}}
use Rattle.{cache_policy.specs.declared.Directives.Directives, cache_rules.specs.Freshening.IsFreshened}
use Rattle.cache_rules.specs.{Stored.{fields_of_stored, request_of_stored}, declared.freshening.Exchange.Exchange}
use Rattle.cache_rules.specs.declared.stored.StoredResponse.{StoredResponse}
use Rattle.cache_store.specs.{Contents.{Contents, responses_at}, History.{Call, History, IsJustified, Run}}
use Rattle.cache_store.specs.History.Call.{Answered, Arrived, Described, Looked, Removed, Validated}
use Rattle.cache_store.specs.{Lookups.IsAnswer, Numbers.numbered, Served.Serves, declared.limits.Limits.Limits}
use Rattle.{cache_store.specs.declared.lookup.Lookup.Lookup, interference.specs.Events.{Setting, with_number}}
use Rattle.interference.specs.Worlds.{Answer, Clients, Dated, Head, Kind.Right, Node, Origin, Stored, Storing}
use Rattle.interference.specs.Worlds.{Request as Sent, Storing.{NotShared, Shared}}

-- ---- requests

abbrev pub text_of : Member → Line
text_of (Whole text) = text
text_of Malformed = []

-- The members of a list, or the field lines of another field or a malformed list. In which lines a list is doesn't
-- matter (RFC 9110, section 5.3).
abbrev pub parts_of : List ℕ → List Line → List Line
parts_of name lines =
    if is_list_name name && list_all is_whole (field_members (has_pairs name) lines)
    then map text_of (field_members (has_pairs name) lines) else lines

-- the combined value of a field, made of the members of a list, if it is there (RFC 9110, section 5.2; RFC 9111,
-- section 4.1)
abbrev pub value_of : List ℕ → List Line → Option (List ℕ)
value_of name [] = None
value_of name (line ∷ lines) = Some (combined (parts_of name (line ∷ lines)))

-- a request to the target with this number
abbrev pub sent : ℕ → Request → Sent
sent target request =
    record {
      is_get = bytes_eq request.method (codes "GET");
      target = target;
      fields = λ name. value_of name (request.fields name);
    }

-- ---- how a response may be stored

-- not by a shared cache: it is `private`, or `no-store`, which doesn't count beside `must-understand` (RFC 9111,
-- sections 5.2.2.3, 5.2.2.5 and 5.2.2.7). Whether the cache understands the status is judged apart.
abbrev pub is_closed : Directives → Bool
is_closed tells = tells.private || (tells.no_store && not tells.must_understand)

-- in spite of Authorization (section 3.5)
abbrev pub is_open : Directives → Bool
is_open tells = tells.must_revalidate || (tells.public || is_some tells.s_max_age)

-- a member of Vary that is a field name, and not `*` (RFC 9110, section 12.5.5)
abbrev pub is_name : Member → Bool
is_name (Whole name) = is_token name && not (bytes_eq name (codes "*"))
is_name Malformed = false

-- the members of Vary
abbrev pub varies : LineMap → List Member
varies response = field_members true (response (codes "vary"))

-- What directives and the members of Vary declare. A response may not be shared if Vary has a member that is no field
-- name: no request selects one with `*` there (RFC 9111, section 4.1), and a malformed member counts alike.
abbrev pub storing_by : Directives → List Member → Storing
storing_by tells vary =
    if is_closed tells || not (list_all is_name vary) then NotShared
    else Shared (map (λ member. lowercase (text_of member)) vary) (is_open tells)

-- what the fields of a response declare
abbrev pub storing_of : Policy → LineMap → Storing
storing_of policy response = storing_by (tells policy response) (varies response)

-- the entity tag, or nothing
abbrev pub tag_of : LineMap → Line
tag_of response = unwrap_or (tag_in response) []

-- ---- what is stored

-- The request, the content, how it may be stored and the entity tag are those of the stored response, whose target has
-- this number. Lifetime, date, version and other fields are not tied.
pub record IsOf (policy : Policy) (target : ℕ) (stored : StoredResponse) (request : Sent) (given : Dated) : Type 0
  where
    pub asks : request ≡ sent target (request_of_stored stored)
    pub content : given.answer.content ≡ stored.content
    pub storing : given.answer.head.storing ≡ storing_of policy (fields_of_stored stored)
    pub tag : given.answer.head.etag ≡ tag_of (fields_of_stored stored)

-- what a 304 with this head, of this version and date, makes of a stored answer
abbrev pub updated : (version date : ℕ) → Head → Stored → Dated
updated version date head one =
    record { version = version; date = date; answer = record { head = head; content = one.given.answer.content } }

-- caches that are right
abbrev pub right : Origin → Clients → Setting
right origin clients = record { kind = Right; origin = origin; clients = clients }

-- ---- histories of calls

-- a cache of the model has the stored response, whose target has this number
pub record IsHeld (policy : Policy) (target : ℕ) (stored : StoredResponse) (node : Node) : Type 0 where
  pub number : ℕ
  pub one : Stored
  pub at : with_number number node.stored ≡ Some one
  pub given : number < node.next
  pub is : IsOf policy target stored one.request one.given

-- a client sends the request with this number, whatever it has been told; each target has a number
abbrev pub IsAsked : (List ℕ → ℕ) → Clients → ℕ → List ℕ → Request → Type 0
IsAsked target_of clients number target request =
    (client : ℕ) × ((told : List Dated) → clients client number told ≡ sent (target_of target) request)

-- The number of a call is that of the calls before it. The clients' requests with it are those that the call is for.
-- The origin server's version with it is that in which it gave what the call takes.
module _ (policy : Policy) (target_of : List ℕ → ℕ) (origin : Origin) (clients : Clients) where
  abbrev pub answer_to : History → List ℕ → Request → Answer
  answer_to calls target request = origin (length calls) (sent (target_of target) request)

  -- a response to GET that comes is the answer
  pub record IsWhole (calls : History) (target : List ℕ) (came : StoredResponse) : Type 0 where
    pub asked : IsAsked target_of clients (length calls) target (request_of_stored came)
    pub is : IsOf policy (target_of target) came (sent (target_of target) (request_of_stored came))
        (record { version = 0; date = 0; answer = answer_to calls target (request_of_stored came) })

  -- A 304 to GET has a strong tag, that of the answer. What it makes of a stored response may be stored as the answer.
  pub record IsConfirmed (calls : History) (target : List ℕ) (request : Request) (update : LineMap)
      (exchange : Exchange) : Type 0 where
    pub method : request.method ≡ codes "GET"
    pub strong : HasStrongTag update
    pub asked : IsAsked target_of clients (length calls) target request
    pub tag : (answer_to calls target request).head.etag ≡ tag_of update
    pub storing : (old new : StoredResponse) → IsJustified policy target calls old
        → IsUpdated (fields_of_stored old) update → IsFreshened old update exchange new
        → (answer_to calls target request).head.storing ≡ storing_of policy (fields_of_stored new)

  -- what the call takes is what the origin server says; no response to HEAD freshens
  abbrev pub TakesAnswer : History → Call → Type 0
  TakesAnswer calls (Looked target) = ⊤
  TakesAnswer calls (Arrived target came reception) = came.method ≡ codes "GET" → IsWhole calls target came
  TakesAnswer calls (Validated target request update exchange) = IsConfirmed calls target request update exchange
  TakesAnswer calls (Described target request head exchange) = ⊥
  TakesAnswer calls (Answered target method status) = ⊤
  TakesAnswer calls (Removed target) = ⊤

  abbrev pub TakeAnswers : History → Type 0
  TakeAnswers [] = ⊤
  TakeAnswers (call ∷ calls) = TakesAnswer calls call × TakeAnswers calls

-- after these calls a lookup serves the stored response to a GET, which a client sends next
pub record IsServedNext (policy : Policy) (limits : Limits) (target_of : List ℕ → ℕ) (clients : Clients)
    (calls : History) (target : List ℕ) (request : Request) (stored : StoredResponse) : Type 0 where
  pub contents : Contents
  pub ran : Run policy limits calls contents
  pub most : ℕ
  pub now : ℕ
  pub lookup : Lookup
  pub answer : IsAnswer policy most request now (responses_at target contents) lookup
  pub number : ℕ
  pub age : Field
  pub serves : Serves lookup number age
  pub at : numbered number (responses_at target contents) ≡ Some stored
  pub method : request.method ≡ codes "GET"
  pub asked : IsAsked target_of clients (length calls) target request

-- it is the content of the origin server's answer to the request in a version from the first to the last
pub record IsContentSince (origin : Origin) (first last : ℕ) (request : Sent) (content : List ℕ) : Type 0 where
  pub version : ℕ
  pub from : first ≤ version
  pub until : version ≤ last
  pub same : content ≡ (origin version request).content
