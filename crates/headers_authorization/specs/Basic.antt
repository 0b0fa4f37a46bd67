-- Basic credentials (RFC 7617, section 2): the base64 of a user name, a colon and a password.
use Rattle.std.specs.Prelude.{◌≡◌, ℕ, ◌+◌, Bool, ◌==◌, List, ◌∷◌, ◌++◌, length, take, drop, Some, codes, IsUtf8}
use Rattle.std.specs.List.{prefix_len}
use Rattle.http_header.specs.Token.{space}
use Rattle.memchr.specs.Find.{IsFirstByte, is_byte}
use Rattle.base64.specs.GeneralPurpose.{IsBytes}
use Rattle.headers_syntax.specs.Lines.{Line}
use Rattle.headers_authorization.specs.Base64.{base64}

-- b':'
abbrev pub colon : ℕ
colon = 58

-- the bytes of user name, colon and password, and the place of that colon
pub record UserPass : Type 0 where
  pub bytes : List ℕ
  pub place : ℕ

abbrev pub user_pass : List ℕ → List ℕ → UserPass
user_pass user password = record { bytes = user ++ colon ∷ password; place = length user }

abbrev pub user_of : UserPass → List ℕ
user_of v = take v.place v.bytes

abbrev pub password_of : UserPass → List ℕ
password_of v = drop (v.place + 1) v.bytes

abbrev pub basic_scheme : List ℕ
basic_scheme = codes "Basic"

abbrev pub SameBasic : UserPass → UserPass → Type 0
SameBasic v w = v ≡ w

abbrev pub is_space : ℕ → Bool
is_space b = b == space

-- the bytes after the leading spaces
abbrev pub after_spaces : List ℕ → List ℕ
after_spaces s = drop (prefix_len is_space s) s

-- After the scheme, its space and any further spaces follows the base64 of bytes that are UTF-8, whose first colon is
-- at the place.
pub record ReadsBasic (line : Line) (v : UserPass) : Type 0 where
  pub encoded : after_spaces (drop 6 line) ≡ base64 v.bytes
  pub octets : IsBytes v.bytes
  pub text : IsUtf8 v.bytes
  pub first : IsFirstByte (is_byte colon) v.bytes (Some v.place)

abbrev pub basic_writes : UserPass → Line
basic_writes v = codes "Basic " ++ base64 v.bytes
