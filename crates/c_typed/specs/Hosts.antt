-- Hosts and origins, as C sees them.
use Rattle.std.specs.Prelude.{◌≡◌, ℕ, ◌^◌, ◌-◌, ◌==◌, Bool, true, ◌&&◌, ◌||◌, List, [], ◌∷◌, ◌++◌, length, drop, Option}
use Rattle.{std.specs.{Prelude.{Some, None, bytes_eq}, List.starts_with}, http_uri.specs.Grammar.authority_host}
use Rattle.{http_uri.specs.Port.{IsPortNumberOf, IsPortNumberOfSome}, headers.specs.Host.host_bytes}
use Rattle.headers.specs.Origin.{origin_authority, origin_host, origin_is_null, origin_scheme, origin_text, tuple_text}
use Rattle.{headers.specs.declared.{Host.Host, Origin.Origin}, rfc_fields.specs.Numbers.number_within}
use Rattle.{decide_cors.specs.SentOrigins.is_port_number, c_decisions.specs.Flags.flag_of}
use Rattle.c_typed.specs.declared.hosts.{HostText.HostText, OriginText.OriginText, PortNumber.PortNumber}

abbrev pub port_shown : Option ℕ → PortNumber
port_shown None = record { number = 0; is_set = 0 }
port_shown (Some number) = record { number = number; is_set = 1 }

-- decimal digits of a number below 65,536
abbrev pub is_port : List ℕ → Bool
is_port digits = is_port_number (number_within (2 ^ 64 - 1) digits)

-- What follows a host: nothing, or a colon and perhaps a port (RFC 3986, section 3.2).
abbrev pub is_port_part : List ℕ → Bool
is_port_part [] = true
is_port_part (byte ∷ digits) = (byte == 58) && (bytes_eq digits [] || is_port digits)

-- the text is this one up to the end of the host, and what follows it is as it may be
abbrev pub has_whole_port : (text start : List ℕ) → Bool
has_whole_port text start = starts_with (◌==◌) text start && is_port_part (drop (length start) text)

-- no user precedes the host (RFC 9110, section 4.2.4), and only a port follows it
abbrev pub is_whole_host : Host → Bool
is_whole_host host = has_whole_port (host_bytes host) (authority_host (host_bytes host))

abbrev pub is_whole_origin : Origin → Bool
is_whole_origin origin =
    origin_is_null origin
    || has_whole_port (origin_text origin) (tuple_text (origin_scheme origin) (origin_host origin))

-- the host without its port, and the port if there is one
abbrev pub ShowsHost : Host → HostText → Type 0
ShowsHost host shown =
    (port : Option ℕ)
    × IsPortNumberOf (host_bytes host) port
    × (shown.port ≡ port_shown port)
    × (shown.text.items ≡ authority_host (host_bytes host))

-- the scheme and then the host, where the first ends, the port if there is one, and whether the origin is `null`
abbrev pub ShowsOrigin : Origin → OriginText → Type 0
ShowsOrigin origin shown =
    (port : Option ℕ)
    × IsPortNumberOfSome (origin_authority origin) port
    × (shown.parts.port ≡ port_shown port)
    × (shown.parts.scheme_length ≡ length (origin_scheme origin))
    × (shown.parts.is_null ≡ flag_of (origin_is_null origin))
    × (shown.text.items ≡ origin_scheme origin ++ origin_host origin)
