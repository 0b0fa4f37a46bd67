-- The fields of a handshake, and of a server's answer (RFC 6455, sections 4.1, 4.2.2 and 4.4).
use Rattle.std.specs.Prelude.{◌≡◌, ⊤, ℕ, Bool, false, ◌||◌, bytes_eq, List, [], ◌∷◌, Option, Some, None, codes}
use Rattle.{http_header.specs.FieldValue.FieldValue, headers.specs.{LineMap.{Field, LineMap, set_all}, Lines.Line}}
use Rattle.decide_handshake.specs.{Protocols.AsksFor, declared.server.HandshakeAnswer.HandshakeAnswer}
use Rattle.decide_handshake.specs.declared.server.HandshakeAnswer.TheVariants.{Switch, BadRequest, UpgradeRequired}
use Rattle.decide_handshake.specs.declared.server.HandshakeAnswer.TheVariants.{Forbidden}

abbrev pub status_of : HandshakeAnswer → ℕ
status_of (Switch accept protocol) = 101
status_of (BadRequest fault) = 400
status_of UpgradeRequired = 426
status_of Forbidden = 403

-- Upgrade and Connection of a change of protocol (RFC 9110, section 7.8), and further fields
abbrev pub upgrading : List Field → List Field
upgrading fields =
    (codes "upgrade", codes "websocket" ∷ []) ∷ (codes "connection", codes "upgrade" ∷ []) ∷ fields

-- the version of the protocol
abbrev pub version_field : Field
version_field = (codes "sec-websocket-version", codes "13" ∷ [])

-- the field lines of the selected subprotocol
abbrev pub taken_lines : Option FieldValue → List Line
taken_lines None = []
taken_lines (Some protocol) = protocol.bytes ∷ []

-- the fields of a handshake with this key, without subprotocols and extensions
abbrev pub request_fields : Line → List Field
request_fields key =
    upgrading (
    version_field ∷ (codes "sec-websocket-key", key ∷ []) ∷ (codes "sec-websocket-protocol", [])
    ∷ (codes "sec-websocket-extensions", []) ∷ []
    )

-- the fields of an answer
abbrev pub answer_fields : HandshakeAnswer → List Field
answer_fields (Switch accept protocol) =
    upgrading (
    (codes "sec-websocket-accept", accept.bytes ∷ []) ∷ (codes "sec-websocket-protocol", taken_lines protocol)
    ∷ (codes "sec-websocket-extensions", []) ∷ []
    )
answer_fields (BadRequest fault) = []
answer_fields UpgradeRequired = upgrading (version_field ∷ [])
answer_fields Forbidden = []

-- for each name, the message has what the map has once the fields are set in it
abbrev pub Carries : List Field → LineMap → LineMap → Type 0
Carries fields map message = (name : List ℕ) → message name ≡ set_all map fields name

-- the field is one by which a handshake offers something
abbrev pub is_offer : List ℕ → Bool
is_offer name =
    bytes_eq name (codes "sec-websocket-protocol") || bytes_eq name (codes "sec-websocket-extensions")

-- the same, except for the offers of the handshake
abbrev pub CarriesButOffers : List Field → LineMap → LineMap → Type 0
CarriesButOffers fields map message =
    (name : List ℕ) → is_offer name ≡ false → message name ≡ set_all map fields name

-- the answer selects no subprotocol, or one that this handshake offers
abbrev pub FitsProtocol : LineMap → HandshakeAnswer → Type 0
FitsProtocol sent (Switch accept None) = ⊤
FitsProtocol sent (Switch accept (Some protocol)) = AsksFor sent protocol.bytes
FitsProtocol sent (BadRequest fault) = ⊤
FitsProtocol sent UpgradeRequired = ⊤
FitsProtocol sent Forbidden = ⊤
