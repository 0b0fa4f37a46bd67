-- Which received responses are parts that a cache may store (RFC 9111, section 3.3).
use Rattle.std.specs.Prelude.{◌+◌, ◌-◌, ◌≡◌, Bool, codes, false, if◌then◌else◌, nat_le, nat_lt, option_and_then, ℕ}
use Rattle.std.specs.{Prelude.{◌&&◌, ◌==◌, IsSome, length, List, None, Option, Some}, Option.option_map_or}
use Rattle.{std.specs.List.list_any, headers.specs.{Lines.{Line, only_line}, Typed.HasLine, LineMap.{LineMap, set_all}}}
use Rattle.{rfc_fields.specs.Numbers.number_within, cache_rules.specs.Stored.{fields_of_stored, request_of_stored}}
use Rattle.cache_rules.specs.declared.{stored.StoredResponse.StoredResponse, storing.Reception.Reception}
use Rattle.cache_rules.specs.{declared.storing.Reception.TheVariants.{Complete, Incomplete}, Storing.IsStored}
use Rattle.{cache_policy.specs.Policies.Policy, cache_store.specs.declared.parts.extent.Extent.Extent}
use Rattle.cache_store.specs.Parts.Extents.{extent_fields, extent_in, greatest, size, strong_tag}

-- ---- which part came

-- the text has a plus
abbrev pub has_plus : Line → Bool
has_plus text = list_any (λ b. b == 43) text

-- Content-Range has a plus, which no number of it may have (RFC 9110, section 14.4)
abbrev pub is_signed : LineMap → Bool
is_signed message = option_map_or has_plus (only_line (message (codes "content-range"))) false

-- so many bytes of this part came: all of them, or if the connection ended the first ones, one at least
abbrev pub came_of_part : Reception → ℕ → Extent → Option Extent
came_of_part Complete count extent = if count == size extent then Some extent else None
came_of_part Incomplete count extent = if nat_lt 0 count && nat_le count (size extent) then Some
    (record { first = extent.first; last = extent.first + count - 1; len = extent.len }) else None

-- the number of Content-Length, if it has one line
abbrev pub length_in : LineMap → Option ℕ
length_in message = option_and_then (number_within greatest) (only_line (message (codes "content-length")))

-- the first bytes came of a whole of this length, one at least and not all
abbrev pub came_of_whole : Reception → ℕ → ℕ → Option Extent
came_of_whole Complete count len = None
came_of_whole Incomplete count len = if nat_lt 0 count && (nat_lt count len && nat_lt len greatest) then Some
    (record { first = 0; last = count - 1; len = len }) else None

-- The part of a representation that came: that of a 206, by its Content-Range, which one with several parts doesn't
-- have (RFC 9110, section 15.3.7.2); or the beginning of a 200 that isn't complete.
abbrev pub received_extent : Reception → ℕ → ℕ → LineMap → Option Extent
received_extent reception status count fields = if status == 206 then
    (if is_signed fields then None else option_and_then (came_of_part reception count) (extent_in fields)) else
    (if status == 200 then option_and_then (came_of_whole reception count) (length_in fields) else None)

-- ---- which are stored

-- The response may be stored as a part: it is one, it has a strong validator, its method is GET, and a 200 with its
-- fields would be stored (section 3.3).
pub record IsPart (policy : Policy) (came : StoredResponse) (reception : Reception) (extent : Extent) : Type 0 where
  pub get : came.method ≡ codes "GET"
  pub strong : IsSome (strong_tag (fields_of_stored came))
  pub received : received_extent reception came.status (length came.content) (fields_of_stored came) ≡ Some extent
  pub allowed : IsStored policy (request_of_stored came) 200 (fields_of_stored came) Complete

-- A 206 to a request with If-Range may lack fields of the representation, which that client has (RFC 9110, section
-- 15.3.7). So it is no response of its own.
abbrev pub IsSelfContained : StoredResponse → Type 0
IsSelfContained came = ¬ (HasLine ((request_of_stored came).fields (codes "if-range")))

-- The part as it is stored: as a 200 that isn't complete (section 3.3).
pub record IsRecorded (came : StoredResponse) (extent : Extent) (part : StoredResponse) : Type 0 where
  pub method : part.method ≡ came.method
  pub request : part.request ≡ came.request
  pub status : part.status ≡ 200
  pub content : part.content ≡ came.content
  pub requested : part.requested ≡ came.requested
  pub received : part.received ≡ came.received
  pub fields : (name : List ℕ)
      → fields_of_stored part name ≡ set_all (fields_of_stored came) (extent_fields extent) name
