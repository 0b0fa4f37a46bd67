-- Subprotocols: what a handshake offers, what a server selects, and what a response uses (RFC 6455, sections 4.1, 4.2.2
-- and 4.3).
use Rattle.std.specs.Prelude.{◌≡◌, ◌⊎◌, ℕ, Bool, true, false, List, [], Option, IsSomeAnd, IsTrue, bytes_eq, codes}
use Rattle.{std.specs.{Prelude.find, List.{list_all, list_any}}, http_header.specs.FieldValue.FieldValue}
use Rattle.{headers.specs.{LineMap.LineMap, Lines.{Line, only_line}}, rfc_fields.specs.Directives.is_token_member}
use Rattle.rfc_fields.specs.{Members.field_members, Scan.{Member, Member.{Whole, Malformed}}}
use Rattle.decide_handshake.specs.Fields.{AbsentOr, HasMember}

-- 1#token: at least one member, and each is a token
pub record IsTokenList (lines : List Line) : Type 0 where
  pub some : HasMember lines
  pub tokens : IsTrue (list_all is_token_member (field_members true lines))

-- the member is this text
abbrev pub is_text : List ℕ → Member → Bool
is_text text (Whole s) = bytes_eq s text
is_text text Malformed = false

-- the field lines of Sec-WebSocket-Protocol
abbrev pub protocol_lines : LineMap → List Line
protocol_lines map = map (codes "sec-websocket-protocol")

-- a member of them is the subprotocol, compared with case
abbrev pub lists_protocol : List ℕ → LineMap → Bool
lists_protocol protocol map = list_any (is_text protocol) (field_members true (protocol_lines map))

-- Sec-WebSocket-Protocol-Client = 1#token, if there is the field
abbrev pub OffersProtocols : LineMap → Type 0
OffersProtocols request = AbsentOr IsTokenList (protocol_lines request)

-- the server's choice: the first of its own that the request lists, or none
abbrev pub taken : LineMap → List FieldValue → Option FieldValue
taken request own = find (λ protocol. lists_protocol protocol.bytes request) own

-- the handshake offers this subprotocol
pub record AsksFor (sent : LineMap) (protocol : List ℕ) : Type 0 where
  pub well_formed : IsTokenList (protocol_lines sent)
  pub listed : IsTrue (lists_protocol protocol sent)

-- Sec-WebSocket-Protocol-Server = token: no subprotocol is in use, or the only line is one that was offered
abbrev pub UsesAskedProtocol : LineMap → LineMap → Type 0
UsesAskedProtocol sent response =
    (protocol_lines response ≡ []) ⊎ IsSomeAnd (only_line (protocol_lines response)) (AsksFor sent)
