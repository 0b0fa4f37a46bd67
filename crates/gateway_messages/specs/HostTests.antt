-- Whether a text is a value of Host, as a test. A law ties it to the grammar of `Hosts`.
use Rattle.std.specs.Prelude.{ℕ, ◌+◌, ◌==◌, Bool, true, false, ◌||◌, ◌&&◌, not, [], ◌∷◌, length, take, drop}
use Rattle.std.specs.{Prelude.{nat_lt, is_some, if◌then◌else◌}, Char.{is_ascii_digit, is_ascii_hexdigit}, List.list_all}
use Rattle.std.specs.{List.prefix_len, Net.Reader.{read_ipv6, whole_value}}
use Rattle.{headers.specs.Lines.Line, gateway_messages.specs.Hosts.{is_address_byte, is_encoded, is_name_byte}}

-- the text begins with an encoded byte
abbrev pub begins_encoded : Line → Bool
begins_encoded [] = false
begins_encoded (b ∷ []) = false
begins_encoded (b ∷ c ∷ []) = false
begins_encoded (b ∷ c ∷ d ∷ s) = is_encoded b c d

-- the text begins with a byte that a registered name may have by itself, or with an encoded one
abbrev pub begins_part : Line → Bool
begins_part [] = false
begins_part (b ∷ s) = is_name_byte b || begins_encoded (b ∷ s)

-- So does the rest of a registered name at each byte: the digits of an encoded byte may stand by themselves.
unfoldable pub is_reg_name : Line → Bool
is_reg_name [] = true
is_reg_name (b ∷ s) = begins_part (b ∷ s) && is_reg_name s

-- a dot, and an address of a future version
abbrev pub is_dotted_address : Line → Bool
is_dotted_address [] = false
is_dotted_address (b ∷ s) = b == 46 && (not (length s == 0) && list_all is_address_byte s)

abbrev pub version_len : Line → ℕ
version_len s = prefix_len is_ascii_hexdigit s

abbrev pub is_versioned : Line → Bool
is_versioned s = nat_lt 0 (version_len s) && is_dotted_address (drop (version_len s) s)

abbrev pub is_future_address : Line → Bool
is_future_address [] = false
is_future_address (b ∷ s) = (b == 118 || b == 86) && is_versioned s

abbrev pub is_ipv6 : Line → Bool
is_ipv6 text = is_some (whole_value (read_ipv6 text))

abbrev pub is_address : Line → Bool
is_address text = is_ipv6 text || is_future_address text

-- nothing, or a colon and digits
abbrev pub is_port : Line → Bool
is_port [] = true
is_port (b ∷ s) = b == 58 && list_all is_ascii_digit s

-- what comes before the first closing bracket, or the first colon
abbrev pub literal_len : Line → ℕ
literal_len s = prefix_len (λ b. not (b == 93)) s

abbrev pub name_len : Line → ℕ
name_len s = prefix_len (λ b. not (b == 58)) s

-- what follows the opening bracket
abbrev pub is_literal_host : Line → Bool
is_literal_host s =
    nat_lt (literal_len s) (length s)
    && (is_address (take (literal_len s) s) && is_port (drop (literal_len s + 1) s))

abbrev pub is_named_host : Line → Bool
is_named_host s = is_reg_name (take (name_len s) s) && is_port (drop (name_len s) s)

abbrev pub is_host : Line → Bool
is_host [] = is_named_host []
is_host (b ∷ s) = if b == 91 then is_literal_host s else is_named_host (b ∷ s)
