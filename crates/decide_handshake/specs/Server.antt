-- A server's answer to an opening handshake (RFC 6455, sections 4.2.1 and 4.2.2).
use Rattle.std.specs.Prelude.{◌≡◌, ◌⊎◌, ⊤, ℕ, List, Option, Some, IsSome, codes}
use Rattle.http.specs.declared.version.{Version.Version, TheConstants.Version.{HTTP_11, HTTP_2, HTTP_3}}
use Rattle.{http_header.specs.FieldValue.{FieldValue, plain_value}, websocket.specs.Handshake.IsValidKey}
use Rattle.{websocket.specs.Handshake.accept_key_of, headers.specs.{LineMap.LineMap, Lines.{Line, only_line}}}
use Rattle.decide_handshake.specs.{Extensions.HasExtensions, Fields.{ListsUpgrade, ListsWebsocket}}
use Rattle.decide_handshake.specs.{Origins.{AllowsOrigin, OriginList}, Protocols.{OffersProtocols, taken}}
use Rattle.decide_handshake.specs.{Rules.IsFirstBroken, declared.server.HandshakeAnswer.HandshakeAnswer}
use Rattle.decide_handshake.specs.declared.server.HandshakeAnswer.TheVariants.{Switch, BadRequest, UpgradeRequired}
use Rattle.decide_handshake.specs.declared.server.{HandshakeAnswer.TheVariants.Forbidden, Refusal.Refusal}
use Rattle.decide_handshake.specs.declared.server.Refusal.TheVariants.{Faulty, OtherVersion, OtherOrigin}
use Rattle.decide_handshake.specs.declared.server.Fault.TheVariants.{NotGet, OldHttp, NotHttp11, NoHost, NoUpgrade}
use Rattle.decide_handshake.specs.declared.server.Fault.TheVariants.{NoConnection, NoKey, MalformedProtocols}
use Rattle.decide_handshake.specs.declared.server.Fault.TheVariants.{MalformedExtensions}

-- ---- the rules of section 4.2.1, by their items

-- 1: the method is GET
abbrev pub IsGet : List ℕ → Type 0
IsGet method = method ≡ codes "GET"

-- 1: the version is HTTP/1.1 or higher
abbrev pub IsRecent : Version → Type 0
IsRecent version = (version ≡ HTTP_11) ⊎ ((version ≡ HTTP_2) ⊎ (version ≡ HTTP_3))

-- The version has the status 101. HTTP/2 and HTTP/3 have none (RFC 9113, section 8.6; RFC 9114, section 4.5).
abbrev pub IsHttp11 : Version → Type 0
IsHttp11 version = version ≡ HTTP_11

-- 2: there is a Host field, on one line (RFC 9112, section 3.2)
abbrev pub HasHost : LineMap → Type 0
HasHost request = IsSome (only_line (request (codes "host")))

-- 5: the only line of Sec-WebSocket-Key is this one, and it is the base64 of sixteen bytes
pub record HasKey (request : LineMap) (key : Line) : Type 0 where
  pub only : only_line (request (codes "sec-websocket-key")) ≡ Some key
  pub is_key : IsValidKey key

-- 6: the only line of Sec-WebSocket-Version is 13
abbrev pub HasVersion13 : LineMap → Type 0
HasVersion13 request = only_line (request (codes "sec-websocket-version")) ≡ Some (codes "13")

-- the request is an opening handshake with this key
pub record IsHandshake (method : List ℕ) (version : Version) (request : LineMap) (key : Line) : Type 0 where
  pub get : IsGet method
  pub http11 : IsHttp11 version
  pub host : HasHost request
  pub upgrade : ListsWebsocket request
  pub connection : ListsUpgrade request
  pub has_key : HasKey request key
  pub has_version : HasVersion13 request
  pub protocols : OffersProtocols request
  pub extensions : HasExtensions request

-- ---- the answers

-- the place of each rule in the order of the section
abbrev pub refusal_number : Refusal → ℕ
refusal_number (Faulty NotGet) = 0
refusal_number (Faulty OldHttp) = 1
refusal_number (Faulty NotHttp11) = 2
refusal_number (Faulty NoHost) = 3
refusal_number (Faulty NoUpgrade) = 4
refusal_number (Faulty NoConnection) = 5
refusal_number (Faulty NoKey) = 6
refusal_number OtherVersion = 7
refusal_number (Faulty MalformedProtocols) = 8
refusal_number (Faulty MalformedExtensions) = 9
refusal_number OtherOrigin = 10

module _ (method : List ℕ) (version : Version) (request : LineMap) (origins : OriginList) where
  -- the rule that is broken if the server rejects the request; the last one is the server's own (section 4.2.2, 4)
  abbrev pub Rule : Refusal → Type 0
  Rule (Faulty NotGet) = IsGet method
  Rule (Faulty OldHttp) = IsRecent version
  Rule (Faulty NotHttp11) = IsHttp11 version
  Rule (Faulty NoHost) = HasHost request
  Rule (Faulty NoUpgrade) = ListsWebsocket request
  Rule (Faulty NoConnection) = ListsUpgrade request
  Rule (Faulty NoKey) = (key : Line) × HasKey request key
  Rule OtherVersion = HasVersion13 request
  Rule (Faulty MalformedProtocols) = OffersProtocols request
  Rule (Faulty MalformedExtensions) = HasExtensions request
  Rule OtherOrigin = AllowsOrigin origins request

  abbrev pub IsFirst : Refusal → Type 0
  IsFirst refusal = IsFirstBroken refusal_number Rule refusal

  -- the request is an opening handshake with this key, from an allowed origin
  pub record IsAccepted (key : Line) : Type 0 where
    pub handshake : IsHandshake method version request key
    pub origin : AllowsOrigin origins request

  -- a switch with this accept value, and with this subprotocol of the server's own
  pub record Switches (own : List FieldValue) (accept : FieldValue) (protocol : Option FieldValue) : Type 0 where
    pub key : Line
    pub accepted : IsAccepted key
    pub value : accept ≡ plain_value (accept_key_of key)
    pub picked : protocol ≡ taken request own

  -- which facts give each answer of a server that has these subprotocols
  abbrev pub Answers : List FieldValue → HandshakeAnswer → Type 0
  Answers own (Switch accept protocol) = Switches own accept protocol
  Answers own (BadRequest fault) = IsFirst (Faulty fault)
  Answers own UpgradeRequired = IsFirst OtherVersion
  Answers own Forbidden = IsFirst OtherOrigin

-- the answer changes to the WebSocket protocol
abbrev pub IsSwitch : HandshakeAnswer → Type 0
IsSwitch (Switch accept protocol) = ⊤
IsSwitch (BadRequest fault) = ⊥
IsSwitch UpgradeRequired = ⊥
IsSwitch Forbidden = ⊥
