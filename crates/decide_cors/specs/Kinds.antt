-- The kinds of requests.
use Rattle.std.specs.Prelude.{◌≡◌, ℕ, Bool, true, false, List, codes}
use Rattle.{headers.specs.{LineMap.LineMap, Typed.HasLine}, decide_cors.specs.declared.kind.CorsKind.CorsKind}
use Rattle.decide_cors.specs.declared.kind.CorsKind.TheVariants.{Preflight, Plain, NoOrigin}

-- OPTIONS with the field Access-Control-Request-Method
abbrev pub AsksLeave : List ℕ → LineMap → Type 0
AsksLeave method request = (method ≡ codes "OPTIONS") × HasLine (request (codes "access-control-request-method"))

-- a preflight (a CORS-preflight request), any other request with Origin, or one without it
abbrev pub IsKindOf : List ℕ → LineMap → CorsKind → Type 0
IsKindOf method request Preflight = HasLine (request (codes "origin")) × AsksLeave method request
IsKindOf method request Plain = HasLine (request (codes "origin")) × ¬ (AsksLeave method request)
IsKindOf method request NoOrigin = ¬ (HasLine (request (codes "origin")))

abbrev pub is_preflight : CorsKind → Bool
is_preflight Preflight = true
is_preflight Plain = false
is_preflight NoOrigin = false
