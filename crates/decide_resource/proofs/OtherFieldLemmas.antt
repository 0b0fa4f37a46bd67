-- An answer depends on the fields that decisions read, and on no other.
use Rattle.std.proofs.Common.{arith, ◌≡◌, ◌↔◌, ℕ, List, Option, Some, None, sym, ◌∙◌, ap, subst, bytes_eq}
use Rattle.{std.specs.Prelude.codes, headers.specs.{LineMap.{Field, LineMap}, Lines.Line, Typed.HasLine}}
use Rattle.decide_cors.specs.{Answer.{IsAnswer as IsPolicyAnswer, allows}, Fields.{fields_sent, granted}}
use Rattle.decide_cors.specs.{Kinds.{IsKindOf, is_preflight}, Policy.Policy, declared.kind.CorsKind.CorsKind}
use Rattle.{decide_cors.specs.declared.policy.CorsAnswer.CorsAnswer, decide_resource.specs.Answers.{IsAnswer, IsShared}}
use Rattle.decide_resource.specs.{Answers.{is_admitted, varying}, Fields.vary_lines, Applies.is_preflight_request}
use Rattle.decide_resource.specs.{Requests.Request, Vary.{AreAlike, ChooseAlike}, declared.answer.Answer.Answer}
use Rattle.decide_resource.{specs.declared.resource.Resource.Resource, proofs.SamePlanLemmas.back}
use Rattle.decide_resource.proofs.{SelectionLemmas.SelectAlike, VaryLemmas.{gives_alike, same_first}}

kind_alike : (method : List ℕ) (r s : LineMap) (kind : CorsKind) → r (codes "origin") ≡ s (codes "origin")
    → r (codes "access-control-request-method") ≡ s (codes "access-control-request-method")
    → IsKindOf method r kind → IsKindOf method s kind
kind_alike method r s kind e f h = grind (arith, kind)

shared_alike : (policy : Option Policy) (r s : Request) (lines : List Line) (fields : List Field) → r.method ≡ s.method
    → ChooseAlike r.fields s.fields → IsShared policy r lines fields → IsShared policy s lines fields
shared_alike None r s lines fields method same h = h
shared_alike (Some policy) r s lines fields method same h =
    let answer : CorsAnswer = h.0 in
    let is : IsPolicyAnswer policy r.method r.fields (varying lines) answer = h.1 in (
      answer,
      record {
        kind = kind_alike s.method r.fields s.fields answer.kind same.origin same.requested_method
            (subst (λ (m : List ℕ). IsKindOf m r.fields answer.kind) method is.kind);
        allowed = is.allowed ∙ ap (λ (origin : List Line). allows answer.kind (granted policy origin)) same.origin;
        fields = is.fields ∙ ap (λ (origin : List Line).
            fields_sent policy (is_preflight answer.kind) origin (varying lines (codes "vary"))) same.origin;
      },
      h.2,
    )

-- both are preflights, or neither is
asks_alike : (m n : List ℕ) (r s : LineMap) → m ≡ n → ChooseAlike r s
    → is_preflight_request m r ≡ is_preflight_request n s
asks_alike m n r s method same = grind (arith, bytes_eq)

transferred : (present : ℕ) (resource : Resource) (r s : Request) (a : Answer) → AreAlike r s
    → ChooseAlike r.fields s.fields → IsAnswer present resource r a → IsAnswer present resource s a
transferred present resource r s a alike same h =
    let leave : is_preflight_request r.method r.fields ≡ is_preflight_request s.method s.fields = asks_alike _ _ _ _
    alike.method same in
    let select : SelectAlike resource.negotiation r.fields s.fields = record {
      media_type = λ e. same.accept;
      language = λ e. same.accept_language;
      coding = λ e. same.accept_encoding;
    } in
    record {
      first = same_first present resource r s alike leave a.reason (λ e. select) h.first;
      own = h.own;
      gives = gives_alike present resource r s alike leave (is_admitted a.reason) a.reason a.status a.sends h.own (λ e.
          select) h.gives;
      shared = h.shared;
      is_shared = shared_alike resource.cors r s (vary_lines resource a.reason) h.shared alike.method same h.is_shared;
      fields = h.fields;
    }

pub alike_back : (r s : Request) → AreAlike r s → AreAlike s r
alike_back r s h = grind (arith, back)

choose_back : (r s : LineMap) → ChooseAlike r s → ChooseAlike s r
choose_back r s h = grind (arith)

pub other_fields : (present : ℕ) (resource : Resource) (r s : Request) (a : Answer) → AreAlike r s
    → ChooseAlike r.fields s.fields → IsAnswer present resource r a ↔ IsAnswer present resource s a
other_fields present resource r s a alike same = grind (arith, transferred, resource, alike_back, choose_back)
