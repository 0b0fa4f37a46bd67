-- A request that is denied learns nothing of the resource.
use Rattle.std.proofs.Common.{◌≡◌, ◌⊎◌, ◌<◌, ℕ, true, false, ◌&&◌, List, [], ◌++◌, Option, Some, refl, sym, ◌∙◌, ap}
use Rattle.std.{proofs.{Common.{subst, inl, inr, arith}, lemmas.Bool.cases_order}, specs.Prelude.{codes, is_some, not}}
use Rattle.{std.specs.{Global.Vec, Option.option_map_or}, http_header.specs.FieldValue.FieldValue}
use Rattle.{headers.specs.LineMap.Field, decide_cors.specs.Policy.Policy, decide_resource.specs.Answers.AreSame}
use Rattle.decide_resource.specs.{Answers.{GivesIf, IsAnswer, IsShared, Stops, is_admitted}, Applies.applies}
use Rattle.decide_resource.specs.{Applies.{host_named, is_own, is_preflight_request}, Fields.{status_denied, status_of}}
use Rattle.decide_resource.specs.{Fields.{vary_fields, vary_lines}, Reasons.{Before, IsFirst, stage}, Requests.Request}
use Rattle.decide_resource.specs.declared.{answer.{Answer.Answer, Sends.Sends}, denied.Denied.Denied as Denial}
use Rattle.decide_resource.specs.declared.reason.Reason.{Reason, TheVariants.{InvalidHost, Misdirected, Preflight}}
use Rattle.decide_resource.specs.declared.reason.Reason.TheVariants.{Denied, UnknownMethod}
use Rattle.decide_resource.{specs.declared.resource.Resource.Resource, proofs.AnswerLemmas.{gives_same, shared_same}}
use Rattle.decide_resource.proofs.OneReasonLemmas.{one_reason}

module _ (request : Request) (why : Denial) (denies : request.denied ≡ Some why) where
  is_denied : (present : ℕ) (resource : Resource) → applies present resource request Denied ≡ true
  is_denied present resource = ap (λ (denied : Option Denial). is_some denied) denies

  -- Host, a policy or the denial decides
  early : (present : ℕ) (resource : Resource) (reason : Reason) → IsFirst (applies present resource request) reason
      → Before reason UnknownMethod
  early present resource reason first = elim (cases_order (stage reason) 3) [
    | inl level ↦ omega (arith, level)
    | inr apart ↦
        elim apart [
          | inl low ↦ omega (arith, low)
          | inr high ↦
              let none : applies present resource request Denied ≡ false = first.none_before Denied high in
              absurd (cc (none, is_denied present resource))
        ]
  ]

  only_denied : (reason : Reason) → stage reason ≡ 3 → reason ≡ Denied
  only_denied Denied e = refl
  only_denied reason e = absurd (omega (arith, e))

  stops : (present : ℕ) (resource : Resource) (reason : Reason) (status : Option ℕ) (sent : Sends) (own : List Field)
      → Before reason UnknownMethod → GivesIf (is_admitted reason) present resource request reason status sent own
      → Stops resource request reason status sent own
  stops present resource reason status sent own low h = grind (arith, reason)

  pub told_why : (present : ℕ) (resource : Resource) (answer : Answer) → IsAnswer present resource request answer
      → Before answer.reason Denied ⊎ (answer.status ≡ Some (status_denied why))
  told_why present resource answer a = grind (arith, early, cases_order, only_denied)

  module _ (present later : ℕ) (a b : Resource) (hosts : a.hosts ≡ b.hosts) (cors : a.cors ≡ b.cors) where
    same_test : (reason : Reason) → Before reason UnknownMethod
        → applies present a request reason ≡ applies later b request reason
    same_test reason low = grind (arith, reason)

    same_first : (reason : Reason) → IsFirst (applies later b request) reason
        → IsFirst (applies present a request) reason
    same_first reason first = grind (arith, early, later, same_test)

    -- what a reason gives, of either resource
    same_stops : (reason : Reason) (status : Option ℕ) (sent : Sends) (own : List Field)
        → Before reason UnknownMethod → Stops b request reason status sent own → Stops a request reason status sent own
    same_stops reason status sent own low h = grind (arith, reason)

    no_vary : (resource : Resource) (reason : Reason) → Before reason UnknownMethod → vary_lines resource reason ≡ []
    no_vary resource reason low = grind (arith, reason)

    pub tells_nothing : (x y : Answer) → IsAnswer present a request x → IsAnswer later b request y → AreSame x y
    tells_nothing x y h k =
        let low : Before x.reason UnknownMethod = early present a x.reason h.first in
        let reason : y.reason ≡ x.reason =
        one_reason present a request y.reason x.reason (same_first y.reason k.first) h.first in
        let mine : Stops a request x.reason x.status x.sends h.own =
        stops present a x.reason x.status x.sends h.own low h.gives in
        let other : GivesIf (is_admitted x.reason) later b request x.reason y.status y.sends k.own =
        subst (λ (r : Reason). GivesIf (is_admitted r) later b request r y.status y.sends k.own) reason k.gives in
        let theirs : Stops a request x.reason y.status y.sends k.own =
        same_stops x.reason y.status y.sends k.own low (stops later b x.reason y.status y.sends k.own low other) in
        let given = gives_same present a request x.status y.status x.sends y.sends h.own k.own false x.reason mine
        theirs in
        let under : Before y.reason UnknownMethod = subst (λ (r : Reason). Before r UnknownMethod) (sym reason) low in
        let my_lines = no_vary a x.reason low in
        let their_lines = no_vary b y.reason under in
        let mine_shared : IsShared a.cors request [] h.shared =
        subst (λ (lines : _). IsShared a.cors request lines h.shared) my_lines h.is_shared in
        let theirs_shared : IsShared a.cors request [] k.shared =
        subst (λ (policy : Option Policy). IsShared policy request [] k.shared) (sym cors)
        (subst (λ (lines : _). IsShared b.cors request lines k.shared) their_lines k.is_shared) in
        let shared : h.shared ≡ k.shared = shared_same a.cors request [] h.shared k.shared mine_shared theirs_shared in
        record {
          reason = sym reason;
          status = given.status;
          sends = given.sends;
          fields = h.fields ∙ ap (λ (lines : _). (h.own ++ vary_fields lines) ++ h.shared) my_lines
              ∙ ap (λ (own : List Field). (own ++ []) ++ h.shared) given.fields
              ∙ ap (λ (fields : List Field). (k.own ++ []) ++ fields) shared
              ∙ ap (λ (lines : _). (k.own ++ vary_fields lines) ++ k.shared) (sym their_lines)
              ∙ sym k.fields;
        }
