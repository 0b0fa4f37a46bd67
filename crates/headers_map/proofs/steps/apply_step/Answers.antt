use Rattle.std.proofs.Common.{sym, ◌∙◌, ap}
use Rattle.headers_map.{specs.LineMap.{lines_at, after_step}, specs.declared.steps.Step.Step}
use Rattle.headers_map.{proofs.InsertLemmas.IsRefusedStep-from_parts, proofs.StepLemmas.remove-from_parts}
use Rattle.headers_map.proofs.steps.apply_step.Goals as goal

pub returns-in-Put-clause-err : goal.returns-in-Put-clause-err
returns-in-Put-clause-err c =
    IsRefusedStep-from_parts c.args.map.now c.put_lines.new.map c.args.step c.in-Put.field-0 c.put_lines.result
    c.in-Put.is c.put_lines.ensures.others c.put_lines.ensures.left c.put_lines.ensures.full
    c.put_lines.ensures.replaces

pub returns-in-Remove-clause-ok : goal.returns-in-Remove-clause-ok
returns-in-Remove-clause-ok c = λ name.
    remove-from_parts c.args.map.now c.remove_lines.new.map c.in-Remove.name c.remove_lines.ensures.gone
    c.remove_lines.ensures.others name
    ∙ ap (λ (step : Step). after_step (lines_at c.args.map.now) step name) (sym c.in-Remove.is)
