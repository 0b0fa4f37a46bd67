-- Which responses are stored, and which of their field lines (RFC 9111, sections 3, 3.1 and 3.3).
use Rattle.std.specs.Prelude.{◌≡◌, ◌≢◌, ◌⊎◌, ℕ, Bool, true, false, ◌||◌, List, [], ◌∷◌, ◌++◌, map, filter, bytes_eq}
use Rattle.std.specs.{Prelude.{codes, if◌then◌else◌}, List.list_any}
use Rattle.{http_header.specs.{FieldValue.FieldValue, HeaderMap.{Entries, keys}}, headers.specs.LineMap.Field}
use Rattle.{headers.specs.{LineMap.{LineMap, lines_at}, Lines.Line}, rfc_fields.specs.Scan.Member}
use Rattle.gateway_messages.specs.HopByHop.{are_options, connection_options, is_hop_by_hop, is_named}
use Rattle.cache_policy.specs.{Dating.date_lines, Policies.{MayStoreUnder, Policy}, Requests.Request}
use Rattle.cache_rules.specs.declared.storing.Reception.{Reception, TheVariants.Complete}

-- ---- connection options

-- The fields on which reuse depends: a sender that has them removed, as fields of one connection, is wrong (RFC 9110,
-- section 7.6.1), and what is left of its response would be reused for too long, or for the wrong request.
abbrev pub reuse_names : List (List ℕ)
reuse_names =
    codes "age"
    ∷ codes "cache-control"
    ∷ codes "content-encoding"
    ∷ codes "content-length"
    ∷ codes "content-range"
    ∷ codes "content-type"
    ∷ codes "date"
    ∷ codes "etag"
    ∷ codes "expires"
    ∷ codes "last-modified"
    ∷ codes "set-cookie"
    ∷ codes "vary"
    ∷ []

-- a field of this name isn't served as it came: it is hop-by-hop, or Age or Date, which a cache sets
abbrev pub is_lost : LineMap → List ℕ → Bool
is_lost message name =
    bytes_eq name (codes "age") || bytes_eq name (codes "date")
    || is_hop_by_hop true (connection_options message) name

-- Each connection option is a token, none names a field on which reuse depends, and each targeted field of the cache
-- (RFC 9213) is served as it comes.
pub record HasFairOptions (targets : List (List ℕ)) (message : LineMap) : Type 0 where
  pub listed : are_options (connection_options message) ≡ true
  pub unnamed : list_any (is_named (connection_options message)) reuse_names ≡ false
  pub targeted : list_any (is_lost message) targets ≡ false

-- ---- which responses

-- A cache with this policy stores the response: section 3 allows it; it doesn't answer the conditions (RFC 9110,
-- section 15.5.13) or the range (section 15.5.17) of one request alone; all of it came (section 3.3); and it is known
-- which of its fields are those of the connection.
pub record IsStored (policy : Policy) (request : Request) (status : ℕ) (response : LineMap) (reception : Reception)
    : Type 0 where
  pub allowed : MayStoreUnder policy request status response
  pub no_condition : status ≢ 412
  pub no_range : status ≢ 416
  pub whole : reception ≡ Complete
  pub fair : HasFairOptions policy.targets response

-- ---- which field lines

-- the field is of one connection or of a proxy (section 3.1; RFC 9110, section 7.6.1)
abbrev pub IsHopByHop : LineMap → List ℕ → Type 0
IsHopByHop message name = is_hop_by_hop true (connection_options message) name ≡ true

-- these field lines, or if there are none a Date of that second
abbrev pub or_date : ℕ → List Line → List Line
or_date second [] = date_lines second
or_date second (line ∷ lines) = line ∷ lines

-- What is stored of the fields of a response that came at that time: none that is hop-by-hop; each other as it came;
-- and a Date of the time of receipt, if the response has none (RFC 9110, section 6.6.1).
pub record IsAsStored (received : ℕ) (given stored : LineMap) : Type 0 where
  pub hop_by_hop : (name : List ℕ) → IsHopByHop given name → name ≢ codes "date" → stored name ≡ []
  pub end_to_end : (name : List ℕ) → ¬ (IsHopByHop given name) → name ≢ codes "date" → stored name ≡ given name
  pub date : ¬ (IsHopByHop given (codes "date")) → stored (codes "date") ≡ or_date received (given (codes "date"))
  pub date_of_connection : IsHopByHop given (codes "date") → stored (codes "date") ≡ date_lines received

-- ---- how they are changed

-- the fields of these names that are hop-by-hop, each without field lines
abbrev pub removals : List Member → List (List ℕ) → List Field
removals options names = map (λ name. (name, [])) (filter (is_hop_by_hop true options) names)

-- a response lacks an end-to-end Date
abbrev pub LacksDate : LineMap → Type 0
LacksDate response = (response (codes "date") ≡ []) ⊎ IsHopByHop response (codes "date")

-- there are no field lines
abbrev pub is_absent : List Line → Bool
is_absent [] = true
is_absent (line ∷ lines) = false

-- the test for that
abbrev pub lacks_date : LineMap → Bool
lacks_date response =
    is_absent (response (codes "date")) || is_hop_by_hop true (connection_options response) (codes "date")

-- The fields that turn what came into what is stored: those that are hop-by-hop are removed, and a Date of that second
-- is set if the response lacks one.
abbrev pub storing_fields : ℕ → Entries FieldValue → List Field
storing_fields received response =
    removals (connection_options (lines_at response)) (keys response)
    ++ (if lacks_date (lines_at response) then (codes "date", date_lines received) ∷ [] else [])

-- something is changed before the response is stored: some field of it is hop-by-hop, or it lacks a Date
abbrev pub IsChanged : Entries FieldValue → LineMap → Type 0
IsChanged response lines =
    (list_any (is_hop_by_hop true (connection_options lines)) (keys response) ≡ true) ⊎ LacksDate lines
