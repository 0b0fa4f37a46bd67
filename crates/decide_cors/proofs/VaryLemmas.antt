-- What Vary says after an answer, and which requests it tells apart.
use Rattle.std.proofs.Common.{◌≡◌, ◌≢◌, ◌⊎◌, ℕ, Bool, true, false, List, [], ◌∷◌, ◌++◌, Option, Some, None, refl, ap}
use Rattle.std.proofs.{Common.{sym, ◌∙◌, inl, inr, IsTrue}, Math.Bool.or-true, lemmas.Bool.cases_Bool}
use Rattle.std.{proofs.lemmas.{Grind.flat_map-append, List.Folds.list_any-append}, specs.Prelude.{codes, if◌then◌else◌}}
use Rattle.{std.specs.Prelude.{is_some, ◌||◌}, headers.specs.{LineMap.{Field, LineMap, fields_of, set_all}, Lines.Line}}
use Rattle.rfc_fields.specs.{Directives.is_same_token, Members.{field_members, members}, Scan.{pieces, push}}
use Rattle.decide_cors.specs.{Answer.IsAnswer, Kinds.is_preflight, Policy.Policy, declared.policy.CorsAnswer.CorsAnswer}
use Rattle.decide_cors.specs.{Cache.{Serves, nominates}, Fields.{covers_origin, granted, grant_fields}}
use Rattle.decide_cors.proofs.SameLemmas.{never_pre, same_by}

-- Vary has a star or `origin`
abbrev TellsOrigins : List Line → Type 0
TellsOrigins lines = IsTrue (nominates lines (codes "*")) ⊎ IsTrue (nominates lines (codes "origin"))

lines_tell : (lines : List Line) → covers_origin lines ≡ true → TellsOrigins lines
lines_tell lines e = elim (cases_Bool (nominates lines (codes "*"))) [ inl t ↦ inl t | inr f ↦ inr (rw f at e) ]

-- what the last field lines nominate, all of them nominate
pub nominates-behind : (lines others : List Line) (name : Line) → nominates others name ≡ true
    → nominates (lines ++ others) name ≡ true
nominates-behind lines others name e = rw (flat_map-append (members true) lines others)
    (list_any-append (is_same_token name) (field_members true lines) (field_members true others)
    ∙ ap (λ (b : Bool). nominates lines name || b) e ∙ or-true (nominates lines name))

pub origin_tells : nominates (codes "origin" ∷ []) (codes "origin") ≡ true
unfolding pieces push
origin_tells = refl

behind_tells : (lines : List Line) → TellsOrigins (lines ++ codes "origin" ∷ [])
behind_tells lines = inr (nominates-behind lines (codes "origin" ∷ []) (codes "origin") origin_tells)

-- the field lines of Vary after an answer
abbrev varied : Policy → List Line → List Line
varied policy lines = if is_some policy.origins then
    (if covers_origin lines then lines else lines ++ codes "origin" ∷ []) else lines

vary_set : (b c : Bool) (value : List Line) (m : LineMap)
    → set_all m (if b then (if c then [] else (codes "vary", value) ∷ []) else []) (codes "vary")
    ≡ (if b then (if c then m (codes "vary") else value) else m (codes "vary"))
vary_set true true value m = refl
vary_set true false value m = refl
vary_set false c value m = refl

vary_after : (policy : Policy) (method : List ℕ) (sent response : LineMap) (answer : CorsAnswer)
    → IsAnswer policy method sent response answer
    → set_all response (fields_of answer.fields.items) (codes "vary") ≡ varied policy (response (codes "vary"))
vary_after policy method sent response answer a =
    ap (λ (fields : List Field). set_all response fields (codes "vary")) a.fields
    ∙ vary_set (is_some policy.origins) (covers_origin (response (codes "vary")))
    (response (codes "vary") ++ codes "origin" ∷ [])
    (set_all response (grant_fields policy (is_preflight answer.kind) (granted policy (sent (codes "origin")))))

-- what Vary said stays, and nothing but `origin` comes after it
pub vary_stays : (policy : Policy) (method : List ℕ) (sent response : LineMap) (answer : CorsAnswer)
    → IsAnswer policy method sent response answer
    → (set_all response (fields_of answer.fields.items) (codes "vary") ≡ response (codes "vary"))
    ⊎ (set_all response (fields_of answer.fields.items) (codes "vary") ≡ response (codes "vary") ++ codes "origin" ∷ [])
vary_stays policy method sent response answer a = by (is_some policy.origins) (covers_origin (response (codes "vary")))
    (vary_after policy method sent response answer a)
  where
    by : (b c : Bool) → {after : List Line} → after
        ≡ (if b then (if c then response (codes "vary") else response (codes "vary") ++ codes "origin" ∷ [])
        else response (codes "vary"))
        → (after ≡ response (codes "vary")) ⊎ (after ≡ response (codes "vary") ++ codes "origin" ∷ [])
    by true true e = inl e
    by true false e = inr e
    by false c e = inl e

-- Vary tells origins apart if the policy lists them
listed_tell : (policy : Policy) (listed lines : List Line) → policy.origins ≡ Some listed
    → TellsOrigins (varied policy lines)
listed_tell policy listed lines e = elim (cases_Bool (covers_origin lines)) [
  | inl t ↦ rw e (rw t (lines_tell lines t))
  | inr f ↦ rw e (rw f (behind_tells lines))
]

-- a request that a stored response serves is granted what the other was
same_grant : (policy : Policy) (r s : LineMap) (lines : List Line) → Serves (varied policy lines) r s
    → granted policy (r (codes "origin")) ≡ granted policy (s (codes "origin"))
same_grant policy r s lines v = by policy.origins refl
  where
    by : (origins : Option (List Line)) → policy.origins ≡ origins
        → granted policy (r (codes "origin")) ≡ granted policy (s (codes "origin"))
    by None e = rw e refl
    by (Some listed) e = elim (listed_tell policy listed lines e) [
      | inl star ↦ absurd (v.no_star star)
      | inr names ↦ ap (granted policy) (v.same (codes "origin") names)
    ]

-- a cache gives no request a response whose fields were made for another request
pub cache_same : (policy : Policy) (method : List ℕ) (r s response : LineMap) (a b : CorsAnswer)
    → IsAnswer policy method r response a → IsAnswer policy method s response b → method ≢ codes "OPTIONS"
    → Serves (set_all response (fields_of a.fields.items) (codes "vary")) r s
    → fields_of a.fields.items ≡ fields_of b.fields.items
cache_same policy method r s response a b h k other v = same_by policy method method r s response a b h k
    (never_pre method r a.kind other h.kind ∙ sym (never_pre method s b.kind other k.kind))
    (same_grant policy r s (response (codes "vary")) (rw (vary_after policy method r response a h) at v))
