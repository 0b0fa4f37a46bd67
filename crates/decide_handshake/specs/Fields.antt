-- What both sides require of the fields of a handshake (RFC 6455, sections 4.1 and 4.2). All field lines of a list
-- field are one list (RFC 9110, section 5.3).
use Rattle.std.specs.Prelude.{◌≡◌, ◌⊎◌, ◌<◌, ℕ, Bool, true, false, ◌&&◌, List, [], codes, length, IsTrue, Option, Some}
use Rattle.{std.specs.{Prelude.None, List.{list_all, list_any}}, headers.specs.{LineMap.LineMap, Lines.Line}}
use Rattle.rfc_fields.specs.{Cuts.cut, Directives.{is_same_token, is_token_member}, Members.field_members, Scan.Member}
use Rattle.rfc_fields.specs.{Scan.Member.{Whole, Malformed}, Values.is_token}

-- b'/'
abbrev pub slash : ℕ
slash = 47

-- protocol = token [ "/" token ] (RFC 9110, section 7.8)
abbrev pub is_protocol_of : List ℕ → Option (List ℕ × List ℕ) → Bool
is_protocol_of text None = is_token text
is_protocol_of text (Some sides) = is_token sides.0 && is_token sides.1

abbrev pub is_protocol : Member → Bool
is_protocol (Whole element) = is_protocol_of element (cut slash element)
is_protocol Malformed = false

-- Upgrade is a list of protocols, and has the keyword `websocket`, in any case
pub record ListsWebsocket (map : LineMap) : Type 0 where
  pub protocols : IsTrue (list_all is_protocol (field_members true (map (codes "upgrade"))))
  pub listed : IsTrue (list_any (is_same_token (codes "websocket")) (field_members true (map (codes "upgrade"))))

-- Connection is a list of tokens (RFC 9110, section 7.6.1), and has the token `Upgrade`, in any case
pub record ListsUpgrade (map : LineMap) : Type 0 where
  pub tokens : IsTrue (list_all is_token_member (field_members true (map (codes "connection"))))
  pub listed : IsTrue (list_any (is_same_token (codes "upgrade")) (field_members true (map (codes "connection"))))

-- The lines have a member, as in 1#element, where empty elements don't count (RFC 2616, section 2.1).
abbrev pub HasMember : List Line → Type 0
HasMember lines = 0 < length (field_members true lines)

-- there is no line, or P holds of the lines
abbrev pub AbsentOr : (List Line → Type 0) → List Line → Type 0
AbsentOr IsList lines = (lines ≡ []) ⊎ IsList lines
