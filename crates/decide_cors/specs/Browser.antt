-- The browser (Fetch standard): which responses it gives to scripts, by their field lines.
use Rattle.std.specs.Prelude.{◌≡◌, ◌≢◌, ◌⊎◌, ◌≤◌, ℕ, Bool, List, [], ◌∷◌, Option, Some, None, Contains, IsTrue, codes}
use Rattle.std.specs.{Prelude.{IsSomeAnd, if◌then◌else◌, map}, List.list_all}
use Rattle.{http_header.specs.Token.lowercase, headers.specs.{LineMap.LineMap, Lines.Line, ListItem.is_token}}
use Rattle.{headers.specs.{Merge.merge, Places.comma}, decide_cors.specs.Elements.elements}

abbrev pub star : Line
star = codes "*"

-- A cross-origin request: its origin, serialized; whether its credentials mode is "include"; its method; its unsafe
-- names, those of header fields that aren't safelisted, in any case; and whether a preflight is sent before it whatever
-- its method and names are.
pub record Request : Type 0 where
  pub origin : Line
  pub credentials : Bool
  pub method : Line
  pub unsafe : List Line
  pub uses_preflight : Bool

-- a browser's preflight for the request, by its method and its fields
pub record IsPreflightFor (request : Request) (method : Line) (sent : LineMap) : Type 0 where
  pub options : method ≡ codes "OPTIONS"
  pub origin : sent (codes "origin") ≡ request.origin ∷ []
  pub asked : sent (codes "access-control-request-method") ≡ request.method ∷ []

-- the request itself, by its fields
pub record IsSentFor (request : Request) (sent : LineMap) : Type 0 where
  pub origin : sent (codes "origin") ≡ request.origin ∷ []
  pub unasked : sent (codes "access-control-request-method") ≡ []

abbrev pub Excludes : Request → Type 0
Excludes request = ¬ (IsTrue request.credentials)

-- "get" of a header list: the values joined by a comma and a space; null if there is none
abbrev pub combined : List Line → Option Line
combined [] = None
combined (line ∷ lines) = Some (merge comma (line ∷ lines))

abbrev pub field : List ℕ → LineMap → Option Line
field name response = combined (response name)

-- The CORS check, by the values of Access-Control-Allow-Origin and Access-Control-Allow-Credentials: a star, if
-- credentials aren't included; or the request's origin, and `true` if they are.
abbrev pub Checks : Option Line → Option Line → Request → Type 0
Checks allow_origin allow_credentials request =
    (Excludes request × (allow_origin ≡ Some star))
    ⊎ ((allow_origin ≡ Some request.origin) × (Excludes request ⊎ (allow_credentials ≡ Some (codes "true"))))

abbrev pub CorsCheck : LineMap → Request → Type 0
CorsCheck response request =
    Checks (field (codes "access-control-allow-origin") response)
    (field (codes "access-control-allow-credentials") response) request

-- "extract header list values" of a list of tokens. `None` is failure: of the whole list, if one element is no token.
abbrev pub extracted : Option Line → Option (List Line)
extracted None = Some []
extracted (Some value) = if list_all is_token (elements value) then Some (elements value) else None

-- A field without lines lists the request's own method, if the preflight was sent whatever the method is.
abbrev pub methods_in : Request → Option Line → Option (List Line)
methods_in request None = Some (if request.uses_preflight then request.method ∷ [] else [])
methods_in request (Some value) = extracted (Some value)

-- a CORS-safelisted method
abbrev pub IsSafeMethod : Line → Type 0
IsSafeMethod method = (method ≡ codes "GET") ⊎ (method ≡ codes "HEAD") ⊎ (method ≡ codes "POST")

-- a list of methods grants the request's
abbrev pub GrantsMethod : Request → List Line → Type 0
GrantsMethod request listed =
    IsSafeMethod request.method ⊎ Contains listed request.method ⊎ (Contains listed star × Excludes request)

-- A list of names grants a name. `authorization` is a CORS non-wildcard request-header name.
abbrev pub GrantsName : Request → List Line → Line → Type 0
GrantsName request listed name =
    Contains (map lowercase listed) (lowercase name)
    ⊎ (Contains listed star × Excludes request × (lowercase name ≢ codes "authorization"))

-- an ok status
abbrev pub IsOkStatus : ℕ → Type 0
IsOkStatus status = (200 ≤ status) × (status ≤ 299)

-- after this response to the preflight, the browser sends the request ("CORS-preflight fetch")
pub record PreflightPasses (status : ℕ) (response : LineMap) (request : Request) : Type 0 where
  pub check : CorsCheck response request
  pub ok : IsOkStatus status
  pub method : IsSomeAnd (methods_in request (field (codes "access-control-allow-methods") response))
      (GrantsMethod request)
  pub names : IsSomeAnd (extracted (field (codes "access-control-allow-headers") response))
      (λ listed. (name : Line) → Contains request.unsafe name → GrantsName request listed name)

-- a CORS-safelisted response-header name, whatever is exposed
abbrev pub safe_fields : List Line
safe_fields =
    codes "cache-control" ∷ codes "content-language" ∷ codes "content-length" ∷ codes "content-type" ∷ codes "expires"
    ∷ codes "last-modified" ∷ codes "pragma" ∷ []

-- a forbidden response-header name
abbrev pub IsForbidden : Line → Type 0
IsForbidden name = (lowercase name ≡ codes "set-cookie") ⊎ (lowercase name ≡ codes "set-cookie2")

-- A list of names exposes a name ("main fetch": a star is any name of the response, if credentials aren't included).
abbrev pub ShowsName : Request → List Line → Line → Type 0
ShowsName request listed name =
    ¬ (IsForbidden name)
    × (Contains (map lowercase listed) (lowercase name) ⊎ (Contains listed star × Excludes request))

-- scripts may read the field of this name of a response that passed the CORS check ("CORS filtered response")
abbrev pub IsExposed : LineMap → Request → Line → Type 0
IsExposed response request name =
    Contains safe_fields (lowercase name)
    ⊎ IsSomeAnd (extracted (field (codes "access-control-expose-headers") response))
    (λ listed. ShowsName request listed name)
