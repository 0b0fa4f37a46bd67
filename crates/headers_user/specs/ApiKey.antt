-- Credentials of the scheme `ApiKey`: the scheme, one space and a key.
use Rattle.std.specs.Prelude.{◌≡◌, ℕ, Bool, ◌&&◌, ◌||◌, ◌==◌, List, ◌++◌, drop, length, nat_lt, codes, IsTrue}
use Rattle.std.{specs.Char.is_ascii_alphanumeric, specs.List.list_all}
use Rattle.headers.{specs.Lines.Line, specs.Scheme.FirstReads}

abbrev pub api_key_scheme : List ℕ
api_key_scheme = codes "ApiKey"

-- a letter, a digit, b'-' or b'_'
abbrev pub is_key_byte : ℕ → Bool
is_key_byte b = is_ascii_alphanumeric b || (b == 45 || b == 95)

-- one or more such bytes, and no other
abbrev pub is_key : List ℕ → Bool
is_key key = nat_lt 0 (length key) && list_all is_key_byte key

-- what follows the scheme and its space is the key
abbrev pub ReadsApiKey : Line → List ℕ → Type 0
ReadsApiKey line key = IsTrue (is_key key) × (drop 7 line ≡ key)

abbrev pub api_key_writes : List ℕ → Line
api_key_writes key = codes "ApiKey " ++ key

-- the lines of `authorization` encode the key
abbrev pub CarryKey : List Line → List ℕ → Type 0
CarryKey = FirstReads api_key_scheme ReadsApiKey
