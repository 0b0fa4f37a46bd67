-- What browsers make of an answer.
use Rattle.std.{proofs.Common.{arith, ◌≡◌, ◌↔◌, ℕ, List, [], ◌∷◌, ◌++◌, Some, refl, sym, subst}, specs.Prelude.codes}
use Rattle.{headers.specs.LineMap.{Field, LineMap, fields_of, set, set_all}, decide_cors.specs.Browser.CorsCheck}
use Rattle.decide_cors.specs.{Browser.{IsOkStatus, IsPreflightFor, PreflightPasses, Request as Sent}, Policy.Policy}
use Rattle.decide_cors.specs.Rules.{AllowsCredentials, AllowsOrigin, AllowsRequest, IsLawful, IsPolicyOf}
use Rattle.decide_cors.{specs.declared.rules.CorsRules.CorsRules, proofs.CheckLemmas.check_is_policy}
use Rattle.{decide_cors.proofs.CheckLemmas.preflight_is_policy, decide_resource.specs.Answers.{IsAnswer, IsShared}}
use Rattle.decide_resource.specs.{Answers.varying, Fields.{vary_fields, vary_lines}, Requests.Request}
use Rattle.decide_resource.specs.declared.{answer.Answer.Answer, resource.Resource.Resource}

pub set_all-append : (m : LineMap) (xs ys : List Field) → set_all m (xs ++ ys) ≡ set_all (set_all m xs) ys
set_all-append m [] ys = refl
set_all-append m (x ∷ xs) ys = set_all-append (set m x) xs ys

module _ (present : ℕ) (resource : Resource) (request : Request) (answer : Answer) (policy : Policy)
    (has : resource.cors ≡ Some policy) (a : IsAnswer present resource request answer) (before : LineMap) where
  shares : IsShared (Some policy) request (vary_lines resource answer.reason) a.shared
  shares = grind (arith, resource)

  -- the fields of the policy come last
  come_last : set_all before (fields_of answer.fields.items)
      ≡ set_all (set_all before (a.own ++ vary_fields (vary_lines resource answer.reason)))
      (fields_of shares.0.fields.items)
  come_last = grind (arith, resource, set_all-append, shares)

  pub check_of_answer : (rules : CorsRules) (sent : Sent) → IsLawful rules → IsPolicyOf rules policy
      → request.fields (codes "origin") ≡ sent.origin ∷ []
      → CorsCheck (set_all before (fields_of answer.fields.items)) sent
      ↔ (AllowsOrigin rules sent.origin × AllowsCredentials rules sent.credentials)
  check_of_answer rules sent lawful made origin = subst
      (λ (m : LineMap). CorsCheck m sent ↔ (AllowsOrigin rules sent.origin × AllowsCredentials rules sent.credentials))
      (sym come_last)
      (check_is_policy rules policy request.method request.fields (varying (vary_lines resource answer.reason))
      (set_all before (a.own ++ vary_fields (vary_lines resource answer.reason))) shares.0 sent lawful made shares.1
      origin)

  pub preflight_of_answer : (rules : CorsRules) (sent : Sent) (status : ℕ) → IsLawful rules → IsPolicyOf rules policy
      → IsPreflightFor sent request.method request.fields → IsOkStatus status
      → PreflightPasses status (set_all before (fields_of answer.fields.items)) sent ↔ AllowsRequest rules sent
  preflight_of_answer rules sent status lawful made asks ok =
      subst (λ (m : LineMap). PreflightPasses status m sent ↔ AllowsRequest rules sent) (sym come_last)
      (preflight_is_policy rules policy request.method request.fields (varying (vary_lines resource answer.reason))
      (set_all before (a.own ++ vary_fields (vary_lines resource answer.reason))) shares.0 sent status lawful made
      shares.1 asks ok)
