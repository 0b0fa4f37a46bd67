-- What a 304 changes of a stored response (RFC 9111, sections 3.2 and 4.3.4).
use Rattle.std.specs.Prelude.{◌≡◌, ℕ, Bool, true, ◌&&◌, ◌||◌, not, nat_lt, List, [], ◌∷◌, length, filter, map, Option}
use Rattle.std.specs.{Prelude.{MatchOption, bytes_eq, codes, if◌then◌else◌}, List.list_any}
use Rattle.{http_header.specs.{FieldValue.FieldValue, HeaderMap.{Entries, keys}}, headers.specs.LineMap.Field}
use Rattle.headers.specs.{LineMap.{LineMap, fields_of, lines_at}, declared.Encoded.Encoded}
use Rattle.{rfc_fields.specs.{Directives.is_same_token, Members.field_members}, cache_policy.specs.Updating.IsUpdated}

-- The fields that no update changes: those of a connection (RFC 9110, section 7.6.1), those of a proxy (section 3.1),
-- and those that speak of the stored content: its length, what was undone of it, and which part it is (section 3.2).
abbrev pub kept_names : List (List ℕ)
kept_names =
    codes "connection"
    ∷ codes "keep-alive"
    ∷ codes "proxy-connection"
    ∷ codes "te"
    ∷ codes "transfer-encoding"
    ∷ codes "upgrade"
    ∷ codes "proxy-authenticate"
    ∷ codes "proxy-authentication-info"
    ∷ codes "proxy-authorization"
    ∷ codes "content-length"
    ∷ codes "content-encoding"
    ∷ codes "content-range"
    ∷ []

unfoldable pub is_kept_name : List ℕ → Bool
is_kept_name name = list_any (λ kept. bytes_eq name kept) kept_names

-- Connection names the field, in any case
abbrev pub is_named : LineMap → List ℕ → Bool
is_named update name = list_any (is_same_token name) (field_members true (update (codes "connection")))

-- the update doesn't change the field of this name: it is one of those above, or Connection names it
abbrev pub is_kept : LineMap → List ℕ → Bool
is_kept update name = is_kept_name name || is_named update name

-- the stored fields, with those of the update in place of their own lines
abbrev pub freshened : LineMap → LineMap → LineMap
freshened stored update name =
    if nat_lt 0 (length (update name)) && not (is_kept update name) then update name else stored name

-- the fields of these names that a stored response takes over from the update: those that aren't kept
abbrev pub taken : LineMap → List (List ℕ) → List Field
taken update names = map (λ name. (name, update name)) (filter (λ name. not (is_kept update name)) names)

-- the fields by which the update freshens a stored response, in the update's order
abbrev pub freshening_fields : Entries FieldValue → List Field
freshening_fields update = taken (lines_at update) (keys update)

-- there are fields exactly if the update is about the stored response, and they are those
abbrev pub FreshensIf : LineMap → Entries FieldValue → Option (List Encoded) → Type 0
FreshensIf stored update found =
    MatchOption found (¬ (IsUpdated stored (lines_at update)))
    (λ fields. IsUpdated stored (lines_at update) × (fields_of fields ≡ freshening_fields update))
