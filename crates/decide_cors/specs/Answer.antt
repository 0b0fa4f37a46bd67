-- The answer of a policy to a request.
use Rattle.std.specs.Prelude.{◌≡◌, ℕ, Bool, true, List, Option, is_some, codes}
use Rattle.headers.specs.{LineMap.LineMap, LineMap.fields_of, Lines.Line}
use Rattle.decide_cors.specs.{Kinds.IsKindOf, Kinds.is_preflight, Policy.Policy, Fields.fields_sent, Fields.granted}
use Rattle.decide_cors.specs.{declared.kind.CorsKind.CorsKind, declared.policy.CorsAnswer.CorsAnswer}
use Rattle.decide_cors.specs.declared.kind.CorsKind.TheVariants.{Preflight, Plain, NoOrigin}

-- A request without Origin is allowed. Any other is allowed if its response gets Access-Control-Allow-Origin.
abbrev pub allows : CorsKind → Option Line → Bool
allows NoOrigin line = true
allows Preflight line = is_some line
allows Plain line = is_some line

-- the answer to a request of this method with these fields, for a response with these fields
pub record IsAnswer (policy : Policy) (method : List ℕ) (request response : LineMap) (answer : CorsAnswer)
    : Type 0 where
  pub kind : IsKindOf method request answer.kind
  pub allowed : answer.is_allowed ≡ allows answer.kind (granted policy (request (codes "origin")))
  pub fields : fields_of answer.fields.items
      ≡ fields_sent policy (is_preflight answer.kind) (request (codes "origin")) (response (codes "vary"))

-- two answers with the same kind, permission and fields
pub record AreSame (a b : CorsAnswer) : Type 0 where
  pub kind : a.kind ≡ b.kind
  pub allowed : a.is_allowed ≡ b.is_allowed
  pub fields : fields_of a.fields.items ≡ fields_of b.fields.items
