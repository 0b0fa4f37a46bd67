use Rattle.std.proofs.Common.{◌≡◌, ℕ, List, [], ◌∷◌, ◌++◌, Option, ap, refl, subst, sym, ◌∙◌}
use Rattle.{std.specs.Prelude.{option_map, string_bytes}, http_header.specs.FieldValue.FieldValue}
use Rattle.http1.specs.Fields.{Header}
use Rattle.headers.specs.LineMap.{fields_of as encoded_fields}
use Rattle.{headers.specs.Lines.Line, decide_resource.specs.{Requests.request_of, declared.resource.Resource.Resource}}
use Rattle.server_service.specs.Answer.{Carries, Decides, IsAnswerAt, IsDescribed, clock, closing_fields, first_fields}
use Rattle.server_service.specs.{Answer.{sniff_field, source_sent, status_for}, Asked.IsAsked, Response.fields_of}
use Rattle.server_service.{specs.declared.{file.File.File, settings.Site.Site}, proofs.AnswerLemmas.Carries-at}
use Rattle.server_service.proofs.AnswerLemmas.{bytes_copied}
use Rattle.server_service.proofs.service.FileServiceHandler.plan.Goals as goal
use Rattle.{std.specs.Prelude.Some, decide_preconditions.specs.declared.plan.Plan.TheVariants.Full}
use Rattle.{decide_resource.specs.declared.answer.Sends.TheVariants.Planned, server_service.specs.Whole.whole_fields}
use Rattle.server_service.proofs.WholeLemmas.{whole_is_answer}

pub returns-in-Some : goal.returns-in-Some
returns-in-Some g c =
    let site = c.args.self.now.site in
    let left = c.args.self.now.left in
    let now = c.date_of-date.result in
    let found = c.in_ok-found.found in
    let file = c.in-Some.file.now in
    let asked = request_of c.asked-head.result in
    let response = c.carry_whole.new.response in
    let date = c.in_ok-put_date.ensures.headers in
    let sniff = c.in_ok-put_sniff.ensures.headers ∙ ap (λ (l : List Header). l ++ sniff_field ∷ []) date in
    let first = c.in_ok-put_closing.ensures.headers ∙ ap (λ (l : List Header). l ++ closing_fields left) sniff in
    let time : c.clock-present.result ≡ clock now found.files.items =
    c.clock-present.ensures ∙ ap (clock now) c.deref.ensures.value in
    let Answered : Option ℕ → Type 0 = λ time. IsAnswerAt time left site (g.S.FileStore.has c.args.self.now.store)
    c.args.request.now response c.source_sent.result in (
      (
        c.now.result,
        subst Answered c.date_of-date.ensures
            (whole_is_answer now left c.clock-present.result site (g.S.FileStore.has c.args.self.now.store)
            c.args.request.now response c.source_sent.result found file asked time c.in_ok-found.ensures (
              option_map (λ (it : FieldValue). it.bytes) c.in_ok-authority.authority,
              c.in_ok-authority.ensures,
              subst (λ (a : Option Line). IsAsked c.args.request.now a asked)
                  (bytes_copied c.as_ref.result c.in_ok-authority.authority c.as_ref.ensures.value)
                  c.asked-head.ensures,
            ) c.in-Some.ensures (subst (λ (h : List Header).
            Carries h site (file ∷ []) 200 (Planned (Some 0) Full) (whole_fields c.clock-present.result file) response)
            first c.in_ok-carry_whole.ensures) (c.source_sent.ensures ∙ ap (source_sent found.files.items)
            c.all_sent.ensures)),
        c.now.ensures,
      ),
      record { cache_control = refl; divider = refl; pages = refl; resource = refl },
      refl,
      c.saturating_sub-self.ensures,
    )

pub returns : goal.returns
returns g c =
    let site = c.args.self.now.site in
    let left = c.args.self.now.left in
    let told = c.now.result in
    let now = c.date_of-date.result in
    let found = c.in_ok-found.found in
    let resource = c.describe.new.resource in
    let answer = c.in_ok-reason.field-0 in
    let code = status_for found.status answer.reason answer.status in
    let given = encoded_fields answer.fields.items in
    let asked = request_of c.asked-head.result in
    let after : Site = record {
      cache_control = site.cache_control;
      divider = site.divider;
      pages = site.pages;
      resource = resource;
    } in
    let before : List Header = fields_of c.put_closing.new.response in
    let date = c.in_ok-put_date.ensures.headers in
    let sniff = c.in_ok-put_sniff.ensures.headers ∙ ap (λ (l : List Header). l ++ sniff_field ∷ []) date in
    let first = c.in_ok-put_closing.ensures.headers ∙ ap (λ (l : List Header). l ++ closing_fields left) sniff in
    let described = c.in_ok-describe.ensures.described in
    let files = ap (λ (v : _). v.items) c.in_ok-describe.ensures.files in
    let time : c.clock-present.result ≡ clock now found.files.items =
    c.clock-present.ensures ∙ ap (clock now) c.deref.ensures.value in
    let cors : resource.cors ≡ site.resource.cors = ap (λ (r : Resource). r.cors) described.is in
    let status = c.status_for-status.ensures
    ∙ ap (λ (n : ℕ). status_for n answer.reason answer.status) c.in_ok-describe.ensures.status in
    let decides = subst (λ (t : ℕ). Decides t (string_bytes site.divider) found.files.items resource asked answer) time
    (subst
    (λ (d : List ℕ). Decides c.clock-present.result d found.files.items resource asked answer) c.as_str.ensures.value
    (subst (λ (l : List File). Decides c.clock-present.result c.as_str.result.now l resource asked answer)
    (c.deref-2.ensures.value ∙ files) c.in_ok-reason.ensures.answers)) in
    let Carried : List Header → List File → ℕ → Type 0 =
    λ h l n. Carries h after l n answer.sends given c.carry.new.response in
    let carries = Carries-at (first_fields now left) site after found.files.items code answer.sends given
    c.carry.new.response refl refl refl cors (subst (λ (h : List Header). Carried h found.files.items code) first
    (subst (λ (n : ℕ). Carried before found.files.items n) status
    (subst (λ (l : List File). Carried before l c.status_for-status.result) (c.deref-3.ensures.value ∙ files)
    c.in_ok-carry.ensures))) in
    let Answered : Option ℕ → Type 0 = λ time. IsAnswerAt time left site (g.S.FileStore.has c.args.self.now.store)
    c.args.request.now c.carry.new.response c.source_sent-2.result in (
      (
        told,
        subst Answered c.date_of-date.ensures (record {
          found = found;
          leads = c.in_ok-found.ensures;
          resource = resource;
          described = subst (λ (t : ℕ). IsDescribed t site.resource found resource) time described;
          asked = asked;
          asks = (
            option_map (λ (it : FieldValue). it.bytes) c.in_ok-authority.authority,
            c.in_ok-authority.ensures,
            subst (λ (a : Option Line). IsAsked c.args.request.now a asked)
                (bytes_copied c.as_ref.result c.in_ok-authority.authority c.as_ref.ensures.value) c.asked-head.ensures,
          );
          answer = answer;
          decides = decides;
          carries = carries;
          opens = c.source_sent-2.ensures ∙ ap (λ (l : List File). source_sent l answer.sends) files;
        }),
        c.now.ensures,
      ),
      record {
        cache_control = refl;
        divider = refl;
        pages = refl;
        resource = described.is
            ∙ ap (λ (r : Resource). record site.resource { state = r.state; representations = r.representations })
            (sym described.is);
      },
      refl,
      c.saturating_sub-self.ensures,
    )
