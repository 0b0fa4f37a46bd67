-- Bearer credentials (RFC 6750, section 2.1): the whole line, which is text.
use Rattle.std.{specs.Prelude.{◌≡◌, ℕ, List, ◌++◌, drop, codes, IsTrue}, specs.Str.trim_start}
use Rattle.http_header.specs.FieldValue.{FieldValue}
use Rattle.headers_syntax.{specs.Lines.Line, specs.Text.is_text}

abbrev pub bearer_scheme : List ℕ
bearer_scheme = codes "Bearer"

-- a contract sees Bearer credentials as the value that they store
abbrev pub SameBearer : FieldValue → FieldValue → Type 0
SameBearer v w = v.bytes ≡ w.bytes

abbrev pub ReadsBearer : Line → FieldValue → Type 0
ReadsBearer line v = IsTrue (is_text line) × (v.bytes ≡ line)

abbrev pub bearer_writes : FieldValue → Line
bearer_writes v = v.bytes

-- the field line of a token
abbrev pub bearer_line : List ℕ → Line
bearer_line token = codes "Bearer " ++ token

-- the token of a field line: what follows its first seven bytes, without leading white space
abbrev pub bearer_token : Line → List ℕ
bearer_token line = trim_start (drop 7 line)
