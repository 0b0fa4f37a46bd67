-- Which origins a server allows (RFC 6455, sections 4.2.2 and 10.2).
use Rattle.std.specs.Prelude.{◌≡◌, ◌⊎◌, ⊤, Bool, List, [], Option, Some, None, IsSomeAnd, IsTrue, bytes_eq, codes}
use Rattle.{std.specs.List.list_any, http_header.specs.Token.lowercase, headers.specs.{LineMap.LineMap, Lines.Line}}
use Rattle.headers.specs.Lines.{only_line}

-- the listed origins, or `None` for any
abbrev pub OriginList : Type 0
OriginList = Option (List Line)

-- one of the origins is this text, ignoring the case of ASCII letters
abbrev pub lists_origin : List Line → Line → Bool
lists_origin origins text = list_any (λ origin. bytes_eq (lowercase origin) (lowercase text)) origins

-- the only line of Origin is one of these
abbrev pub NamesListed : List Line → LineMap → Type 0
NamesListed origins request =
    IsSomeAnd (only_line (request (codes "origin"))) (λ text. IsTrue (lists_origin origins text))

-- A request without Origin is from no browser (section 4.2.1), and only scripts in
-- browsers are to be kept out.
abbrev pub AllowsOrigin : OriginList → LineMap → Type 0
AllowsOrigin None request = ⊤
AllowsOrigin (Some origins) request = (request (codes "origin") ≡ []) ⊎ NamesListed origins request
