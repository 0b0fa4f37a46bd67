-- When a cache uses a stored response for another request (RFC 9111, section 4.1).
use Rattle.std.{specs.Prelude.{◌≡◌, Bool, List, IsTrue, codes, true}, specs.List.list_any}
use Rattle.headers.{specs.LineMap.LineMap, specs.Lines.Line}
use Rattle.rfc_fields.{specs.Directives.is_same_token, specs.Members.field_members}

-- The field lines of Vary nominate the name, in any case: it is a member of one of them (RFC 9110, section 12.5.5). A
-- member with a quote that has no end nominates nothing.
abbrev pub nominates : List Line → Line → Bool
nominates varying name = list_any (is_same_token name) (field_members true varying)

-- A cache may use a stored response with these field lines of Vary, which answered the first request, for the second.
-- A cache that treats a malformed Vary as a star uses fewer.
pub record Serves (varying : List Line) (first second : LineMap) : Type 0 where
  pub no_star : ¬ IsTrue (nominates varying (codes "*"))
  pub same : (name : Line) → IsTrue (nominates varying name) → first name ≡ second name
