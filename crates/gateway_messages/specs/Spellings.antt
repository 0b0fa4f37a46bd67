-- Field names that some servers can't tell from others. CGI and WSGI pass each field on as a variable (RFC 3875,
-- section 4.1.18), in whose name an underscore is written for a dash, and in some for each byte that is neither a
-- letter nor a digit.
use Rattle.std.specs.Prelude.{ℕ, Bool, ◌==◌, ◌&&◌, ◌||◌, not, List, [], ◌∷◌, map, bytes_eq, codes, if◌then◌else◌}
use Rattle.std.specs.{Char.is_ascii_alphanumeric, List.list_any}
use Rattle.gateway_messages.specs.declared.gateway.Gateway.{Gateway}

-- neither a letter, nor a digit, nor a dash
abbrev pub is_mark : ℕ → Bool
is_mark b = not (is_ascii_alphanumeric b || b == 45)

abbrev pub has_mark : List ℕ → Bool
has_mark name = list_any is_mark name

abbrev pub has_underscore : List ℕ → Bool
has_underscore name = list_any (λ b. b == 95) name

abbrev pub dash_for : ℕ → ℕ
dash_for b = if is_mark b then 45 else b

-- the name with a dash for each mark
abbrev pub dashed : List ℕ → List ℕ
dashed name = map dash_for name

-- the names with a dash of fields that a gateway writes, consumes or protects
abbrev pub guarded_names : List (List ℕ)
guarded_names =
    codes "content-length" ∷ codes "transfer-encoding" ∷ codes "max-forwards" ∷ codes "cache-control"
    ∷ codes "set-cookie" ∷ codes "keep-alive" ∷ codes "proxy-connection" ∷ codes "proxy-authenticate"
    ∷ codes "proxy-authentication-info" ∷ codes "proxy-authorization" ∷ codes "x-forwarded-for"
    ∷ codes "x-forwarded-host" ∷ codes "x-forwarded-proto" ∷ []

-- the dashed name is one of these, or one of these further ones
abbrev pub resembles_guarded : List (List ℕ) → List ℕ → Bool
resembles_guarded further name =
    list_any (bytes_eq (dashed name)) guarded_names || list_any (bytes_eq (dashed name)) further

-- The field isn't forwarded for its name: a server may take it for a field that the gateway guards, or the name has an
-- underscore, and the gateway lets none pass.
unfoldable pub is_misspelt : Gateway → List ℕ → Bool
is_misspelt gateway name =
    has_mark name && (resembles_guarded gateway.protected.items name
    || (not gateway.passes_underscores && has_underscore name))
