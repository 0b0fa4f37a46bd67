use Rattle.{std.proofs.Common.{◌++◌, ◌∙◌, Bool, ap, codes, option_map, subst}, http1.specs.Head.pairs}
use Rattle.{std.proofs.Common.Option, headers.specs.LineMap.lines_at, http_header.specs.FieldValue.FieldValue}
use Rattle.{c_gate.proofs.AnswerLemmas.responds, c_gate.specs.Answers.{IsStated, kept_lines, stated_lines}}
use Rattle.c_gate.proofs.answering.respond_in.Goals as goal

pub returns : goal.returns
returns c =
    let fields = c.in_ok-fields.fields in
    let text = λ (value : Option FieldValue). option_map (λ (it : FieldValue). it.bytes) value in
    responds c.args.status c.in_ok-status.status c.args.length c.args.section.now fields
    (pairs c.as_slice.result.now) c.args.gate.now c.respond_with.new.gate c.respond_with.result
    c.in_ok-status.ensures.0 c.in_ok-status.ensures.1 c.in_ok-fields.ensures (
      text c.in_ok-stated.stated,
      subst
          (λ (may : Bool). IsStated may (lines_at fields (codes "content-length")) (text c.in_ok-stated.stated))
          c.may_state.ensures c.in_ok-stated.ensures,
      ap pairs c.as_slice.ensures.value ∙ c.in_ok-lines.ensures
          ∙ ap (λ (value : Option FieldValue). kept_lines fields ++ stated_lines (text value)) c.as_ref.ensures.value,
    )
    c.respond_with.ensures
