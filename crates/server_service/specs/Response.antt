-- The content of a response. It is the plan by which `server_connection` sends it.
use Rattle.std.specs.Prelude.{◌≡◌, ℕ, ◌==◌, Bool, true, ◌&&◌, ◌||◌, List, [], ◌∷◌, ◌++◌, bytes_eq, codes, find}
use Rattle.std.specs.{Prelude.{flat_map, if◌then◌else◌, map, reverse, Option, Some, None}, List.{list_any, starts_with}}
use Rattle.{std.specs.Option.option_map_or, headers.specs.{LineMap.Field, Text.trim}}
use Rattle.{http_header.specs.FieldValue.FieldValue, httparse.specs.Grammar.is_token, http1.specs.Fields.Header}
use Rattle.{http1.specs.Head.{is_field_value, starts_visible}, http_server.specs.Response.fields}
use Rattle.server_connection.specs.declared.piece.Piece.{Piece, TheVariants.Literal}
use Rattle.server_connection.specs.declared.plan.ResponsePlan.{ResponsePlan as Response}
use Rattle.{server_files.specs.Pages.page, server_service.specs.declared.settings.Page.Page}

-- the names and the values of its field lines, in order
abbrev pub fields_of : Response → List Header
fields_of response = fields response.headers.items

-- the page of a status: the first of the site's own that is for it, or else the one that names the status
abbrev pub page_for : List Page → ℕ → List ℕ
page_for pages code = option_map_or (λ own. own.content) (find (λ own. own.status == code) pages) (page code)

abbrev pub page_of : List Page → ℕ → List Piece
page_of pages code = Literal (page_for pages code) ∷ []

abbrev pub html_field : Header
html_field = (codes "content-type", codes "text/html; charset=utf-8")

-- 204 has no content (section 15.3.5), so no page explains it
abbrev pub page_fields : ℕ → List Header
page_fields code = if code == 204 then [] else html_field ∷ []

abbrev pub page_sent : List Page → ℕ → List Piece
page_sent pages code = if code == 204 then [] else page_of pages code

-- both have the same status, the same fields in the same order, and the same pieces
abbrev pub IsSameResponse : Response → Response → Type 0
IsSameResponse r s =
    (r.status ≡ s.status) × (fields_of r ≡ fields_of s) × (r.pieces.items ≡ s.pieces.items)

-- the field lines of a field, each after its name
abbrev pub lines_under : Field → List Header
lines_under field = map (λ line. (field.0, line)) field.1

-- a field of this name is among some
abbrev pub is_named : List ℕ → List Field → Bool
is_named name fields = list_any (λ field. bytes_eq field.0 name) fields

abbrev pub lines_unless : Bool → Field → List Header
lines_unless replaced field = if replaced then [] else lines_under field

-- the field lines of fields that are set in their order: a later field replaces an earlier one of the same name
abbrev pub headers_set : List Field → List Header
headers_set [] = []
headers_set (field ∷ fields) = lines_unless (is_named field.0 fields) field ++ headers_set fields

-- the field lines of fields, in order
abbrev pub headers_of : List Field → List Header
headers_of fields = flat_map lines_under fields

-- The field lines of an answer's fields. Where there is a policy for requests from other origins, its Vary replaces the
-- one before it.
abbrev pub headers_sent : Bool → List Field → List Header
headers_sent has_policy fields = if has_policy then headers_set fields else headers_of fields

-- A tag has no white space at its ends, nor has what a policy for requests from other origins says. So ETag and the
-- fields of the policy stay as they are.
abbrev pub is_kept : List ℕ → Bool
is_kept name = bytes_eq name (codes "etag") || starts_with (◌==◌) name (codes "access-control-")

-- the field line without the white space at the ends of its value, which is no part of it (section 5.5)
abbrev pub trimmed_line : Header → Header
trimmed_line line = if is_kept line.0 then line else (line.0, trim line.1)

abbrev pub trimmed_lines : List Header → List Header
trimmed_lines lines = map trimmed_line lines

-- the name is a token, and the value has no control byte but the tab
abbrev pub is_line : Header → Bool
is_line line = is_token line.0 && is_field_value line.1

-- there is no white space at the ends
abbrev pub is_bare : List ℕ → Bool
is_bare value = starts_visible value && starts_visible (reverse value)

-- the field line is valid, and there is none at the ends of its value
abbrev pub is_bare_line : Header → Bool
is_bare_line line = is_line line && is_bare line.1

-- there is none at the ends of a tag, if there is one
abbrev pub is_bare_tag : Option FieldValue → Bool
is_bare_tag None = true
is_bare_tag (Some tag) = is_bare tag.bytes
