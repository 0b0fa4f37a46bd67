-- The value of Host: uri-host [ ":" port ] (RFC 9110, section 7.2; RFC 3986, sections 2.1 to 2.3, 3.2.2 and 3.2.3).
use Rattle.std.specs.Prelude.{◌≡◌, ◌<◌, ◌⊎◌, ℕ, ◌==◌, Bool, true, false, ◌||◌, ◌&&◌, List, [], ◌∷◌, ◌++◌, length}
use Rattle.std.specs.{Prelude.{Option, Some, None, codes, ⊤}, Char.{is_ascii_alphanumeric, is_ascii_digit}}
use Rattle.std.specs.{Char.is_ascii_hexdigit, List.{concat, list_all}, Net.Grammar.{IsIpv4Text, IsIpv6Text}}
use Rattle.{std.specs.declared.net.{ipv4_addr.Ipv4Addr.Ipv4Addr, ipv6_addr.Ipv6Addr.Ipv6Addr}, headers.specs.Lines.Line}
use Rattle.gateway_messages.specs.declared.protocol.Protocol.{Protocol, TheVariants.{Http10, Http11}}

-- - . _ ~
abbrev pub is_mark : ℕ → Bool
is_mark b = b == 45 || (b == 46 || (b == 95 || b == 126))

-- sub-delims: ! $ & ' ( ) * + , ; =
abbrev pub is_sub_delim : ℕ → Bool
is_sub_delim b =
    b == 33 || (b == 36 || (b == 38 || (b == 39 || (b == 40 || (b == 41 || (b == 42 || (b == 43 || (b == 44
    || (b == 59 || b == 61)))))))))

-- unreserved / sub-delims
abbrev pub is_name_byte : ℕ → Bool
is_name_byte b = is_ascii_alphanumeric b || (is_mark b || is_sub_delim b)

-- unreserved / sub-delims / ":"
abbrev pub is_address_byte : ℕ → Bool
is_address_byte b = is_name_byte b || b == 58

-- pct-encoded = "%" HEXDIG HEXDIG
abbrev pub is_encoded : ℕ → ℕ → ℕ → Bool
is_encoded percent high low = percent == 37 && (is_ascii_hexdigit high && is_ascii_hexdigit low)

-- unreserved / pct-encoded / sub-delims
abbrev pub is_name_part : Line → Bool
is_name_part [] = false
is_name_part (b ∷ []) = is_name_byte b
is_name_part (b ∷ c ∷ []) = false
is_name_part (b ∷ c ∷ d ∷ []) = is_encoded b c d
is_name_part (b ∷ c ∷ d ∷ e ∷ s) = false

-- reg-name = *( unreserved / pct-encoded / sub-delims )
pub record IsRegName (text : Line) : Type 0 where
  pub parts : List Line
  pub valid : list_all is_name_part parts ≡ true
  pub spelled : text ≡ concat parts

-- IPvFuture = "v" 1*HEXDIG "." 1*( unreserved / sub-delims / ":" )
pub record IsFutureAddress (text : Line) : Type 0 where
  pub letter : ℕ
  pub version : Line
  pub address : Line
  pub is_v : (letter == 118 || letter == 86) ≡ true
  pub has_version : (0 < length version) × (list_all is_ascii_hexdigit version ≡ true)
  pub has_address : (0 < length address) × (list_all is_address_byte address ≡ true)
  pub spelled : text ≡ letter ∷ version ++ (46 ∷ address)

-- IPv6address / IPvFuture
abbrev pub IsAddress : Line → Type 0
IsAddress text = ((address : Ipv6Addr) × IsIpv6Text text address) ⊎ IsFutureAddress text

-- IP-literal = "[" ( IPv6address / IPvFuture ) "]"
pub record IsIpLiteral (text : Line) : Type 0 where
  pub inside : Line
  pub address : IsAddress inside
  pub spelled : text ≡ codes "[" ++ (inside ++ codes "]")

-- host = IP-literal / IPv4address / reg-name
abbrev pub IsUriHost : Line → Type 0
IsUriHost text = IsIpLiteral text ⊎ (((address : Ipv4Addr) × IsIpv4Text text address) ⊎ IsRegName text)

-- [ ":" port ], where port = *DIGIT
abbrev pub port_text : Option Line → Line
port_text None = []
port_text (Some digits) = codes ":" ++ digits

abbrev pub has_digits : Option Line → Bool
has_digits None = true
has_digits (Some digits) = list_all is_ascii_digit digits

-- uri-host [ ":" port ]
pub record IsHost (line : Line) : Type 0 where
  pub host : Line
  pub port : Option Line
  pub is_host : IsUriHost host
  pub is_port : has_digits port ≡ true
  pub spelled : line ≡ host ++ port_text port

-- there is one field line of Host, and it is valid, or none in HTTP/1.0 (RFC 9112, section 3.2)
abbrev pub HasHost : Protocol → List Line → Type 0
HasHost Http10 [] = ⊤
HasHost Http11 [] = ⊥
HasHost protocol (line ∷ []) = IsHost line
HasHost protocol (line ∷ other ∷ lines) = ⊥
