-- Which requests get the same fields.
use Rattle.std.proofs.Common.{◌≡◌, ◌≢◌, ◌⊎◌, ℕ, Bool, true, false, List, [], ◌∷◌, ◌++◌, Option, None, refl, ap, sym}
use Rattle.std.{proofs.{Common.{◌∙◌, subst, inl, inr, arith}, lemmas.Slice.Eq.bytes_eq-Decides}, specs.Prelude.bytes_eq}
use Rattle.{std.specs.Prelude.codes, headers.specs.{LineMap.{LineMap, fields_of}, Lines.Line, Typed.HasLine}}
use Rattle.decide_cors.specs.{Answer.{AreSame, IsAnswer, allows}, Kinds.{IsKindOf, is_preflight}, Policy.Policy}
use Rattle.decide_cors.specs.declared.kind.CorsKind.{CorsKind, TheVariants.{Preflight, Plain, NoOrigin}}
use Rattle.decide_cors.specs.{declared.policy.CorsAnswer.CorsAnswer, Fields.{fields_sent, granted, grant_fields}}
use Rattle.decide_cors.specs.Fields.{vary_sent}

-- requests whose fields Origin and Access-Control-Request-Method are equal are of one kind
pre_once : (method : List ℕ) (r s : LineMap) (k l : CorsKind) → r (codes "origin") ≡ s (codes "origin")
    → r (codes "access-control-request-method") ≡ s (codes "access-control-request-method")
    → IsKindOf method r k → IsKindOf method s l → is_preflight k ≡ is_preflight l
pre_once method r s Preflight Preflight e f h i = refl
pre_once method r s Preflight Plain e f h i = absurd (i.1 (h.1.0, subst HasLine f h.1.1))
pre_once method r s Preflight NoOrigin e f h i = absurd (i (subst HasLine e h.0))
pre_once method r s Plain Preflight e f h i = absurd (h.1 (i.1.0, subst HasLine (sym f) i.1.1))
pre_once method r s Plain Plain e f h i = refl
pre_once method r s Plain NoOrigin e f h i = refl
pre_once method r s NoOrigin Preflight e f h i = absurd (h (subst HasLine (sym e) i.0))
pre_once method r s NoOrigin Plain e f h i = refl
pre_once method r s NoOrigin NoOrigin e f h i = refl

-- a request that isn't OPTIONS asks for no leave
pub never_pre : (method : List ℕ) (r : LineMap) (k : CorsKind) → method ≢ codes "OPTIONS" → IsKindOf method r k
    → is_preflight k ≡ false
never_pre method r Preflight other h = absurd (other h.1.0)
never_pre method r Plain other h = refl
never_pre method r NoOrigin other h = refl

-- answers of one policy for one response, of one kind and one grant, set the same
pub same_by : (policy : Policy) (m n : List ℕ) (r s response : LineMap) (a b : CorsAnswer)
    → IsAnswer policy m r response a → IsAnswer policy n s response b → is_preflight a.kind ≡ is_preflight b.kind
    → granted policy (r (codes "origin")) ≡ granted policy (s (codes "origin"))
    → fields_of a.fields.items ≡ fields_of b.fields.items
same_by policy m n r s response a b h k pre grants =
    let varying = response (codes "vary") in
    h.fields
    ∙ ap (λ (p : Bool). fields_sent policy p (r (codes "origin")) varying) pre
    ∙ ap (λ (line : Option Line). grant_fields policy (is_preflight b.kind) line ++ vary_sent policy varying) grants
    ∙ sym k.fields

pub same_lines : (policy : Policy) (method : List ℕ) (r s response : LineMap) (a b : CorsAnswer)
    → IsAnswer policy method r response a → IsAnswer policy method s response b
    → r (codes "origin") ≡ s (codes "origin")
    → r (codes "access-control-request-method") ≡ s (codes "access-control-request-method")
    → fields_of a.fields.items ≡ fields_of b.fields.items
same_lines policy method r s response a b h k e f =
    same_by policy method method r s response a b h k (pre_once _ r s _ _ e f h.kind k.kind) (ap (granted policy) e)

-- if any origin is allowed, all requests of one kind get the same fields
pub any_lines_same : (policy : Policy) (m n : List ℕ) (r s response : LineMap) (a b : CorsAnswer)
    → IsAnswer policy m r response a → IsAnswer policy n s response b → policy.origins ≡ None → a.kind ≡ b.kind
    → fields_of a.fields.items ≡ fields_of b.fields.items
any_lines_same policy m n r s response a b h k any kinds =
    same_by policy m n r s response a b h k (ap is_preflight kinds) (rw any refl)

-- a request is of one kind
kind_once : (method : List ℕ) (r : LineMap) (k l : CorsKind) → IsKindOf method r k → IsKindOf method r l → k ≡ l
kind_once method r Preflight Preflight h i = refl
kind_once method r Preflight Plain h i = absurd (i.1 h.1)
kind_once method r Preflight NoOrigin h i = absurd (i h.0)
kind_once method r Plain Preflight h i = absurd (h.1 i.1)
kind_once method r Plain Plain h i = refl
kind_once method r Plain NoOrigin h i = absurd (i h.0)
kind_once method r NoOrigin Preflight h i = absurd (h i.0)
kind_once method r NoOrigin Plain h i = absurd (h i.0)
kind_once method r NoOrigin NoOrigin h i = refl

-- and so has one answer
pub answer_once : (policy : Policy) (method : List ℕ) (sent response : LineMap) (a b : CorsAnswer)
    → IsAnswer policy method sent response a → IsAnswer policy method sent response b → AreSame a b
answer_once policy method sent response a b h k =
    let kinds = kind_once method sent a.kind b.kind h.kind k.kind in
    record {
      kind = kinds;
      allowed = h.allowed ∙ ap (λ (kind : CorsKind). allows kind (granted policy (sent (codes "origin")))) kinds
          ∙ sym k.allowed;
      fields = same_lines policy method sent sent response a b h k refl refl;
    }

-- a list of field lines is empty, or it isn't
line_or_none : (lines : List Line) → HasLine lines ⊎ (¬ (HasLine lines))
line_or_none [] = inr (λ h. absurd (omega (arith, h)))
line_or_none (line ∷ lines) = inl (omega arith)

-- a request with Origin is a preflight or plain
some_kind_with : (method : List ℕ) (sent : LineMap) → HasLine (sent (codes "origin"))
    → HasLine (sent (codes "access-control-request-method"))
    ⊎ (¬ (HasLine (sent (codes "access-control-request-method")))) → (b : Bool)
    → bytes_eq method (codes "OPTIONS") ≡ b → (kind : CorsKind) × IsKindOf method sent kind
some_kind_with method sent origin (inr absent) b e = (Plain, (origin, λ asks. absent asks.1))
some_kind_with method sent origin (inl asked) true e =
    (Preflight, (origin, ((bytes_eq-Decides method (codes "OPTIONS")).0 e, asked)))
some_kind_with method sent origin (inl asked) false e =
    (Plain, (origin, λ asks. let t = (bytes_eq-Decides method (codes "OPTIONS")).1 asks.0 in cc (t, e)))

some_kind_by : (method : List ℕ) (sent : LineMap) → HasLine (sent (codes "origin"))
    ⊎ (¬ (HasLine (sent (codes "origin")))) → (kind : CorsKind) × IsKindOf method sent kind
some_kind_by method sent (inr absent) = (NoOrigin, absent)
some_kind_by method sent (inl origin) = some_kind_with method sent origin
    (line_or_none (sent (codes "access-control-request-method"))) (bytes_eq method (codes "OPTIONS")) refl

-- each request is of some kind
pub some_kind : (method : List ℕ) (sent : LineMap) → (kind : CorsKind) × IsKindOf method sent kind
some_kind method sent = some_kind_by method sent (line_or_none (sent (codes "origin")))
