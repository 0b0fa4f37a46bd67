-- Which texts browsers send as origins (HTML standard, "ASCII serialization of an origin"; URL standard, "host parsing"
-- and "host serializing").
use Rattle.std.specs.Prelude.{◌≡◌, ℕ, Bool, false, not, ◌&&◌, ◌||◌, ◌==◌, nat_lt, List, Option, Some, None, Result, Ok}
use Rattle.std.specs.{Prelude.{Err, if◌then◌else◌, bytes_eq, codes, drop, length, slice_index}, Char.is_ascii_digit}
use Rattle.std.specs.{Char.{is_ascii_graphic, is_ascii_lowercase}, List.{after_last, before_last, ends_with, list_all}}
use Rattle.{std.specs.List.{list_any, prefix_len, starts_with}, url.specs.Host.{host_text, parse_special_host}}
use Rattle.{url.specs.declared.{error.ParseError.ParseError, host.Host.Host}, headers.specs.{Lines.Line, Typed.HasLine}}
use Rattle.{headers.specs.declared.Refused.{Refused, TheVariants.{Invalid, Memory}}, rfc_fields.specs.Cuts.cut}
use Rattle.{rfc_fields.specs.Numbers.number_within, decide_cors.specs.declared.sent.UnsentOrigin.UnsentOrigin}

-- ---- the scheme

-- a lower-case letter, a digit, or one of `+-.`
abbrev pub is_scheme_byte : ℕ → Bool
is_scheme_byte b = is_ascii_lowercase b || (is_ascii_digit b || (b == 43 || (b == 45 || b == 46)))

-- URLs of ws and wss are no pages, and those of file have the origin `null`
abbrev pub has_no_origin : Line → Bool
has_no_origin scheme =
    bytes_eq scheme (codes "ws") || (bytes_eq scheme (codes "wss") || bytes_eq scheme (codes "file"))

-- a scheme in lower case, which begins with a letter, whose pages have origins: http, https, ftp or a browser's own
abbrev pub is_sent_scheme : Line → Bool
is_sent_scheme scheme =
    is_ascii_lowercase (slice_index scheme 0) && (list_all is_scheme_byte scheme && not (has_no_origin scheme))

-- ---- the host

-- the text is how the host that it is parsed to is serialized
abbrev pub is_serialized : Line → Result (Host (List ℕ)) ParseError → Bool
is_serialized text (Ok host) = bytes_eq (host_text host) text
is_serialized text (Err error) = false

-- Visible ASCII but the star. The URL standard has hosts with a star, but DNS has none, and in a list it means others.
abbrev pub is_host_byte : ℕ → Bool
is_host_byte b = is_ascii_graphic b && not (b == 42)

-- A domain in lower case, without a forbidden byte, which doesn't end in a number; an IPv4 address as four decimal
-- numbers without leading zeros; or an IPv6 address in brackets, in lower case and compressed.
abbrev pub is_sent_host : Line → Bool
is_sent_host host = list_all is_host_byte host && is_serialized host (parse_special_host host)

-- ---- the port

-- a port that the scheme has by default is left out
abbrev pub is_default_port : (scheme port : Line) → Bool
is_default_port scheme port =
    (bytes_eq scheme (codes "http") && bytes_eq port (codes "80"))
    || ((bytes_eq scheme (codes "https") && bytes_eq port (codes "443"))
    || (bytes_eq scheme (codes "ftp") && bytes_eq port (codes "21")))

abbrev pub has_leading_zero : Line → Bool
has_leading_zero port = starts_with (◌==◌) port (codes "0") && nat_lt 1 (length port)

abbrev pub is_port_number : Option ℕ → Bool
is_port_number None = false
is_port_number (Some number) = nat_lt number 65536

-- decimal digits without leading zeros, of a number below 65,536
abbrev pub is_port : Line → Bool
is_port port = is_port_number (number_within (18446744073709551615) port) && not (has_leading_zero port)

abbrev pub is_sent_port : (scheme port : Line) → Bool
is_sent_port scheme port = is_port port && not (is_default_port scheme port)

-- ---- the origin

abbrev pub is_colon : ℕ → Bool
is_colon b = b == 58

-- there is a port: a colon that is none of an IPv6 address, which ends with a bracket
abbrev pub has_port : Line → Bool
has_port authority = list_any is_colon authority && not (ends_with (◌==◌) authority (codes "]"))

-- a host, or a host, a colon and a port
abbrev pub is_sent_authority : (scheme authority : Line) → Bool
is_sent_authority scheme authority =
    if has_port authority
    then is_sent_port scheme (after_last is_colon authority) && is_sent_host (before_last is_colon authority)
    else is_sent_host authority

-- a scheme, `://`, and a host with or without a port, by what is before and after the first colon
abbrev pub is_sent_tuple : Option (Line × Line) → Bool
is_sent_tuple None = false
is_sent_tuple (Some sides) =
    is_sent_scheme sides.0
    && (starts_with (◌==◌) sides.1 (codes "//") && is_sent_authority sides.0 (drop 2 sides.1))

-- the text is `null`, or the serialization of a tuple origin
abbrev pub is_sent : Line → Bool
is_sent text = bytes_eq text (codes "null") || is_sent_tuple (cut 58 text)

-- ---- lists of origins

-- how many texts are before the first that no browser sends
abbrev pub sent_count : List Line → ℕ
sent_count listed = prefix_len is_sent listed

-- the place of that one, if there is one
abbrev pub unsent_place : List Line → Option ℕ
unsent_place listed = if nat_lt (sent_count listed) (length listed) then Some (sent_count listed) else None

-- the same of the listed origins, or `None` for any
abbrev pub unsent_of : Option (List Line) → Option ℕ
unsent_of None = None
unsent_of (Some listed) = unsent_place listed

-- why the list isn't taken: its first text that no browser sends, or out of memory, if there is any text
abbrev pub RejectsList : List Line → Refused UnsentOrigin → Type 0
RejectsList listed (Invalid unsent) = unsent_place listed ≡ Some unsent.place
RejectsList listed (Memory error) = HasLine listed
