-- A request has one answer.
use Rattle.std.proofs.Common.{arith, ◌≡◌, ℕ, Bool, true, false, List, ◌++◌, Option, Some, None, refl, sym, ◌∙◌, ap}
use Rattle.{std.proofs.Common.subst, http_header.specs.FieldValue.FieldValue, headers.specs.LineMap.{Field, LineMap}}
use Rattle.{headers.specs.Lines.Line, decide_cors.{specs.Policy.Policy, proofs.SameLemmas.same_lines}}
use Rattle.decide_negotiation.proofs.ChoiceLemmas.{picks_one}
use Rattle.decide_preconditions.specs.{Contents.{divisible_len, limits_of}, Fields.{fields_sent, is_known_by}}
use Rattle.decide_preconditions.specs.{Plans.IsSamePlan, Responses.IsAnswered, declared.content.Content.Content}
use Rattle.decide_preconditions.specs.declared.{plan.Plan.Plan, resource.TargetState.TargetState as Target}
use Rattle.decide_preconditions.{specs.declared.response.Response.Response, proofs.OnePlanLemmas.one_plan}
use Rattle.decide_resource.specs.Answers.{AreSame, AreSent, Gives, GivesIf, Goes, GoesOn, IsAnswer, IsSelected}
use Rattle.decide_resource.specs.Answers.{IsShared, Stops, at_place, is_admitted, is_sent, response_fields, status_sent}
use Rattle.decide_resource.specs.{Answers.with_metadata, Fields.{vary_fields, vary_lines}, Requests.Request}
use Rattle.decide_resource.specs.declared.{answer.{Answer.Answer, Sends.Sends}, reason.Reason.Reason}
use Rattle.decide_resource.specs.declared.{representation.Representation.Representation, resource.Resource.Resource}
use Rattle.decide_resource.proofs.{OneReasonLemmas.one_reason, PlanLemmas.same_by_plan}
use Rattle.decide_resource.specs.declared.answer.Sends.TheVariants as sends

pub one_place : (resource : Resource) (fields : LineMap) (a b : Option ℕ) → IsSelected resource fields a
    → IsSelected resource fields b → a ≡ b
one_place resource fields a b h k = grind (arith, resource, picks_one, fields)

sent_self : (sent : Sends) → AreSent sent sent
sent_self (sends.Planned place plan) = (refl, (refl, refl))
sent_self sent = tt

-- ---- what the preconditions make of one representation

pub record AreAlike (fields : LineMap) (representation : Option Representation) (r s : Option Response) : Type 0 where
  pub status : status_sent r ≡ status_sent s
  pub sends : (place : Option ℕ) → AreSent (is_sent place r) (is_sent place s)
  pub has_fields : response_fields fields representation r ≡ response_fields fields representation s

module _ (present : ℕ) (method : List ℕ) (fields : LineMap) (target : Target) (content : Content)
    (multipart : FieldValue) (representation : Option Representation) where
  several_alike : (rep : Option Representation) (xs ys : _) → with_metadata fields rep (Plan.Multiple xs)
      (fields_sent present (Plan.Multiple xs) (is_known_by fields) target content multipart)
      ≡ with_metadata fields rep (Plan.Multiple ys)
      (fields_sent present (Plan.Multiple ys) (is_known_by fields) target content multipart)
  several_alike None xs ys = refl
  several_alike (Some rep) xs ys = refl

  pub alike : (r s : Option Response) → IsAnswered present method fields target content multipart r
      → IsAnswered present method fields target content multipart s → AreAlike fields representation r s
  alike None None h k = record { status = refl; sends = λ place. tt; has_fields = refl }
  alike None (Some s) h k = absurd
      (one_plan present method fields target (divisible_len content) (limits_of content) None (Some s.plan) h k.plan)
  alike (Some r) None h k = absurd
      (one_plan present method fields target (divisible_len content) (limits_of content) (Some r.plan) None h.plan k)
  alike (Some r) (Some s) h k =
      let len = divisible_len content in
      let limits = limits_of content in
      let same : IsSamePlan (Some r.plan) (Some s.plan) =
      one_plan present method fields target len limits (Some r.plan) (Some s.plan) h.plan k.plan in
      record {
        status = ap (λ (code : ℕ). Some code) (h.status ∙ same.0 ∙ sym k.status);
        sends = λ place. (refl, same);
        has_fields = ap (with_metadata fields representation r.plan) h.fields
            ∙ same_by_plan present method fields target len limits (λ plan. with_metadata fields representation plan
            (fields_sent present plan (is_known_by fields) target content multipart))
            (several_alike representation) r.plan s.plan h.plan k.plan same
            ∙ sym (ap (with_metadata fields representation s.plan) k.fields);
      }

-- ---- what a reason gives

pub record GiveSame (st su : Option ℕ) (se sf : Sends) (fs gs : List Field) : Type 0 where
  pub status : st ≡ su
  pub sends : AreSent se sf
  pub fields : fs ≡ gs

module _ (present : ℕ) (resource : Resource) (request : Request) (st su : Option ℕ) (se sf : Sends)
    (fs gs : List Field) where
  stops_same : (reason : Reason) → Stops resource request reason st se fs → Stops resource request reason su sf gs
      → GiveSame st su se sf fs gs
  stops_same reason h k = grind (arith, reason, sent_self)

  goes_on_same : (place : Option ℕ) (rep : Option Representation) → GoesOn present resource request place rep st se fs
      → GoesOn present resource request place rep su sf gs → GiveSame st su se sf fs gs
  goes_on_same place rep h k = grind (arith, alike, resource)

  goes_same : Goes present resource request st se fs → Goes present resource request su sf gs
      → GiveSame st su se sf fs gs
  goes_same h k =
      let representations = resource.representations.items in
      let place : k.place ≡ h.place = one_place resource request.fields k.place h.place k.selected h.selected in
      let goes : GoesOn present resource request h.place (at_place representations h.place) su sf gs =
      subst (λ (p : Option ℕ). GoesOn present resource request p (at_place representations p) su sf gs) place k.goes in
      goes_on_same h.place (at_place representations h.place) h.goes goes

  pub gives_same : (b : Bool) (reason : Reason) → GivesIf b present resource request reason st se fs
      → GivesIf b present resource request reason su sf gs → GiveSame st su se sf fs gs
  gives_same true reason h k = goes_same h k
  gives_same false reason h k = stops_same reason h k

pub shared_same : (policy : Option Policy) (request : Request) (lines : List Line) (fs gs : List Field)
    → IsShared policy request lines fs → IsShared policy request lines gs → fs ≡ gs
shared_same None request lines fs gs h k = h ∙ sym k
shared_same (Some policy) request lines fs gs h k = grind (arith, same_lines)

pub one_answer : (present : ℕ) (resource : Resource) (request : Request) (a b : Answer)
    → IsAnswer present resource request a → IsAnswer present resource request b → AreSame a b
one_answer present resource request a b h k =
    let reason : b.reason ≡ a.reason = one_reason present resource request b.reason a.reason k.first h.first in
    let gives : Gives present resource request a.reason b.status b.sends k.own =
    subst (λ (r : Reason). Gives present resource request r b.status b.sends k.own) reason k.gives in
    let given = gives_same present resource request a.status b.status a.sends b.sends h.own k.own
    (is_admitted a.reason) a.reason h.gives gives in
    let shares : IsShared resource.cors request (vary_lines resource a.reason) k.shared =
    subst (λ (r : Reason). IsShared resource.cors request (vary_lines resource r) k.shared) reason k.is_shared in
    let shared : h.shared ≡ k.shared =
    shared_same resource.cors request (vary_lines resource a.reason) h.shared k.shared h.is_shared shares in
    record {
      reason = sym reason;
      status = given.status;
      sends = given.sends;
      fields = h.fields
          ∙ ap (λ (own : List Field). (own ++ vary_fields (vary_lines resource a.reason)) ++ h.shared) given.fields
          ∙ ap (λ (shared : List Field). (k.own ++ vary_fields (vary_lines resource a.reason)) ++ shared) shared
          ∙ ap (λ (r : Reason). (k.own ++ vary_fields (vary_lines resource r)) ++ k.shared) (sym reason)
          ∙ sym k.fields;
    }
