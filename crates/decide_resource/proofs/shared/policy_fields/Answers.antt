use Rattle.{std.proofs.Common.{List, codes, refl, ap, ◌∙◌}, headers.specs.{LineMap.lines_at, Lines.Line}}
use Rattle.decide_cors.specs.{Fields.fields_sent, Kinds.is_preflight}
use Rattle.decide_resource.proofs.shared.policy_fields.Goals as goal

pub returns : goal.returns
returns c =
    let answer = c.in_ok-answer.answer in
    let said = c.in_ok-answer.ensures in (
      answer,
      record {
        kind = said.kind;
        allowed = said.allowed;
        fields = said.fields
            ∙ ap (λ (lines : List Line). fields_sent c.args.policy.now (is_preflight answer.kind)
            (lines_at c.args.request.now.fields.now (codes "origin")) lines) c.in_ok-response.ensures;
      },
      refl,
    )
