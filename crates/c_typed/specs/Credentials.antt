-- Credentials, as C sees them.
use Rattle.std.specs.{Prelude.{◌≡◌, ℕ, List, ◌++◌, length}, Global.Vec}
use Rattle.{http_header.specs.FieldValue.FieldValue, headers.specs.Basic.{UserPass, password_of, user_of}}
use Rattle.headers.specs.{Bearer.bearer_token, Lines.Line, declared.authorization.Authorization.Authorization}
use Rattle.c_parts.specs.Written.{reads_basic, reads_bearer}
use Rattle.c_typed.specs.declared.credentials.UserPassword.{UserPassword}

-- the first line has Basic credentials
abbrev pub basic_reads : List Line → Authorization UserPass → Type 0
basic_reads lines header = reads_basic lines header.0

-- the user name and then the password, and where the first ends
abbrev pub ShowsUserPassword : Authorization UserPass → UserPassword → Type 0
ShowsUserPassword header shown =
    (shown.user_length ≡ length (user_of header.0)) × (shown.text.items ≡ user_of header.0 ++ password_of header.0)

-- the first line has a bearer token
abbrev pub bearer_reads : List Line → Authorization FieldValue → Type 0
bearer_reads lines header = reads_bearer lines header.0

abbrev pub ShowsToken : Authorization FieldValue → Vec ℕ → Type 0
ShowsToken header token = token.items ≡ bearer_token header.0.bytes
