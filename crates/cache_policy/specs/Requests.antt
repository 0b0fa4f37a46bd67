-- A request as a cache sees it, and which methods a stored response answers.
use Rattle.std.specs.Prelude.{◌≡◌, ◌⊎◌, ℕ, List, IsTrue, codes}
use Rattle.{http.specs.Method.{is_among, safe_methods}, headers.specs.LineMap.{LineMap, lines_at}}
use Rattle.rfc_fields.specs.declared.request.RequestHead.{RequestHead}
use Rattle.decide_preconditions.specs.Preconditions.{IsGetOrHead}

-- the method and the fields of a request
pub record Request : Type 0 where
  pub method : List ℕ
  pub fields : LineMap

abbrev pub request_of : RequestHead → Request
request_of request = record { method = request.method.now; fields = lines_at request.fields.now }

-- the method is safe (RFC 9110, section 9.2.1)
abbrev pub IsSafe : List ℕ → Type 0
IsSafe method = IsTrue (is_among safe_methods method)

-- The method of the stored request allows the response to answer the new one (RFC 9111, section 4): a response to GET
-- answers GET and HEAD (RFC 9110, section 9.3.1), one to HEAD answers HEAD (section 9.3.2).
abbrev pub AllowsMethod : List ℕ → List ℕ → Type 0
AllowsMethod stored method =
    ((stored ≡ codes "GET") × IsGetOrHead method) ⊎ ((stored ≡ codes "HEAD") × (method ≡ codes "HEAD"))
