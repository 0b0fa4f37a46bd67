-- The authority of a request (RFC 9112, section 3.2).
use Rattle.std.specs.Prelude.{◌≡◌, ℕ, Bool, true, false, List, [], ◌∷◌, Option, Some, None, codes}
use Rattle.{http_header.specs.FieldValue.{FieldValue, IsFieldValue}, headers.specs.{LineMap.LineMap, Lines.Line}}
use Rattle.gateway_messages.specs.HostTests.{is_host}

-- a host and maybe a port
abbrev pub is_authority : List ℕ → Bool
is_authority [] = false
is_authority (byte ∷ bytes) = is_host (byte ∷ bytes)

abbrev pub IsAuthority : List ℕ → Type 0
IsAuthority authority = (is_authority authority ≡ true) × IsFieldValue authority

-- the authority as a field value, if it is one
abbrev pub HasHostValue : List ℕ → Option FieldValue → Type 0
HasHostValue authority None = ¬ (IsAuthority authority)
HasHostValue authority (Some value) = IsAuthority authority × (value.bytes ≡ authority)

-- The Host that takes the place of the received one: that of a target in absolute-form (RFC 9112, section 3.2.2), or
-- the origin server's for a request of HTTP/1.0 without Host.
abbrev pub host_or : FieldValue → List Line → Option Line
host_or origin [] = Some origin.bytes
host_or origin (line ∷ lines) = None

abbrev pub given_host : FieldValue → LineMap → Option Line → Option Line
given_host origin fields (Some authority) = Some authority
given_host origin fields None = host_or origin (fields (codes "host"))
