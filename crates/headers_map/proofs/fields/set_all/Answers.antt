use Rattle.std.proofs.Common.{◌≡◌, ℕ, List, [], ◌∷◌, ◌++◌, ◌+◌, length, sym, ◌∙◌, ap, arith}
use Rattle.std.proofs.lemmas.List.{append-nil, append_assoc, length_push, nil_from_length}
use Rattle.headers_map.{specs.LineMap.{lines_at, run, settings}, specs.declared.encoded.Encoded.Encoded}
use Rattle.headers_map.proofs.SetLemmas.{run-set_all, run-setting, IsOfOther-setting, SetsPart-from_split}
use Rattle.headers_map.proofs.fields.set_all.Goals as goal

pub returns-in-Err-clause-err : goal.returns-in-Err-clause-err
returns-in-Err-clause-err c =
    let kept = c.loop-field.invariant in
    SetsPart-from_split c.args.map.now c.apply_step.new.map c.loop-field.map c.args.fields.items
    kept.first c.next.new.self.rest.items c.in-Some.field _ _
    (ap (λ (fields : List Encoded). kept.first ++ fields) (sym c.in-Some.ensures.items) ∙ kept.split)
    c.setting.ensures kept.count kept.ran c.in-Err.ensures.err

pub returns-in-Err-clause-others : goal.returns-in-Err-clause-others
returns-in-Err-clause-others c = λ name none.
    let kept = c.loop-field.invariant in
    let split = ap (λ (fields : List Encoded). kept.first ++ fields) (sym c.in-Some.ensures.items) ∙ kept.split in
    c.apply_step.ensures.others name (IsOfOther-setting name c.args.fields.items kept.first
    c.next.new.self.rest.items c.in-Some.field _ split c.setting.ensures none)
    ∙ kept.others name none

pub loop-field-preserved : goal.loop-field-preserved
loop-field-preserved c =
    let kept = c.loop-field.invariant in
    let split = ap (λ (fields : List Encoded). kept.first ++ fields) (sym c.in-Some.ensures.items) ∙ kept.split in
    record {
      first = kept.first ++ c.in-Some.field ∷ [];
      split =
          append_assoc kept.first (c.in-Some.field ∷ []) c.next.new.self.rest.items
          ∙ ap (λ (fields : List Encoded). kept.first ++ fields) (sym c.in-Some.ensures.items)
          ∙ kept.split;
      count = ap (λ (n : ℕ). n + 1) kept.count ∙ sym (length_push kept.first c.in-Some.field);
      ran =
          run-setting (lines_at c.args.map.now) (lines_at c.loop-field.map) (lines_at c.apply_step.new.map) kept.first
          c.in-Some.field _ kept.ran c.setting.ensures c.in_default-apply_step.ensures.ok;
      others = λ name none.
          c.apply_step.ensures.others name (IsOfOther-setting name c.args.fields.items kept.first
          c.next.new.self.rest.items c.in-Some.field _ split c.setting.ensures none)
          ∙ kept.others name none;
    }

pub returns-clause-ok : goal.returns-clause-ok
returns-clause-ok c = λ name.
    let kept = c.loop-field.invariant in
    let zero : length c.loop-field.left.rest.items ≡ 0 =
    omega (arith, c.in_default.ensures.cases, c.loop-field.left.rest.ok.0) in
    let all : kept.first ≡ c.args.fields.items =
    sym (append-nil kept.first)
    ∙ ap (λ (fields : List Encoded). kept.first ++ fields) (sym (nil_from_length c.loop-field.left.rest.items zero))
    ∙ kept.split in
    kept.ran name
    ∙ ap (λ (fields : List Encoded). run (lines_at c.args.map.now) (settings fields) name) all
    ∙ run-set_all (lines_at c.args.map.now) c.args.fields.items name

pub returns-clause-others : goal.returns-clause-others
returns-clause-others c = c.loop-field.invariant.others
