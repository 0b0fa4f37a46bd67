use Rattle.std.proofs.Common.{◌≡◌, ℕ, List, [], ◌∷◌, ◌++◌, ◌+◌, length, sym, ◌∙◌, ap, subst, arith}
use Rattle.std.{proofs.lemmas.List.{append-nil, append_assoc, length_push, nil_from_length}, specs.List.All}
use Rattle.headers_map.{specs.LineMap.{lines_at, run, IsOfOther}, specs.declared.steps.Step.Step}
use Rattle.headers_map.proofs.StepLemmas.{run-step, run-last, AppliesPart-from_split, IsOfOther-step}
use Rattle.headers_map.proofs.steps.apply.Goals as goal

pub returns-in-Err-clause-err : goal.returns-in-Err-clause-err
returns-in-Err-clause-err c =
    let kept = c.loop-step.invariant in
    AppliesPart-from_split c.args.map.now c.apply_step.new.map c.loop-step.map c.args.steps.items
    kept.0 c.next.new.self.rest.items c.in-Some.step _
    (ap (λ (steps : List Step). kept.0 ++ steps) (sym c.in-Some.ensures.items) ∙ kept.1)
    kept.2 kept.3 c.in-Err.ensures.err

pub returns-in-Err-clause-others : goal.returns-in-Err-clause-others
returns-in-Err-clause-others c = λ name none.
    let kept = c.loop-step.invariant in
    let split = ap (λ (steps : List Step). kept.0 ++ steps) (sym c.in-Some.ensures.items) ∙ kept.1 in
    c.apply_step.ensures.others name (IsOfOther-step name kept.0 c.next.new.self.rest.items c.in-Some.step
    (subst (All (IsOfOther name)) (sym split) none))
    ∙ kept.4 name none

pub loop-step-preserved : goal.loop-step-preserved
loop-step-preserved c =
    let kept = c.loop-step.invariant in (
      kept.0 ++ c.in-Some.step ∷ [],
      append_assoc kept.0 (c.in-Some.step ∷ []) c.next.new.self.rest.items
          ∙ ap (λ (steps : List Step). kept.0 ++ steps) (sym c.in-Some.ensures.items)
          ∙ kept.1,
      ap (λ (n : ℕ). n + 1) kept.2 ∙ sym (length_push kept.0 c.in-Some.step),
      run-step (lines_at c.args.map.now) (lines_at c.loop-step.map) (lines_at c.apply_step.new.map) kept.0
          c.in-Some.step kept.3 c.in_default-apply_step.ensures.ok,
      λ name none.
          let split = ap (λ (steps : List Step). kept.0 ++ steps) (sym c.in-Some.ensures.items) ∙ kept.1 in
          c.apply_step.ensures.others name (IsOfOther-step name kept.0 c.next.new.self.rest.items c.in-Some.step
          (subst (All (IsOfOther name)) (sym split) none))
          ∙ kept.4 name none,
    )

pub returns-clause-ok : goal.returns-clause-ok
returns-clause-ok c = λ name.
    let kept = c.loop-step.invariant in
    let zero : length c.loop-step.left.rest.items ≡ 0 =
    omega (arith, c.in_default.ensures.cases, c.loop-step.left.rest.ok.0) in
    let all : kept.0 ≡ c.args.steps.items =
    sym (append-nil kept.0)
    ∙ ap (λ (steps : List Step). kept.0 ++ steps) (sym (nil_from_length c.loop-step.left.rest.items zero))
    ∙ kept.1 in
    kept.3 name ∙ ap (λ (steps : List Step). run (lines_at c.args.map.now) steps name) all

pub returns-clause-last : goal.returns-clause-last
returns-clause-last c = λ name. returns-clause-ok c name ∙ run-last (lines_at c.args.map.now) c.args.steps.items name

pub returns-clause-others : goal.returns-clause-others
returns-clause-others c = c.loop-step.invariant.4
