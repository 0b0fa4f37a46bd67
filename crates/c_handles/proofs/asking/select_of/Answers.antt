use Rattle.{std.proofs.Common.{Ok, subst}, decide_preconditions.specs.declared.resource.TargetState.TargetState}
use Rattle.c_decisions.specs.Targets.{IsResourceOf}
use Rattle.c_handles.proofs.asking.select_of.Goals as goal

pub returns : goal.returns
returns c input holds =
    let method = c.in_ok-method.ensures in
    record {
      is_method = method.0;
      current = c.in-Current.current;
      is_resource = subst (λ (resource : TargetState). IsResourceOf c.args.target.now (Ok resource)) c.in-Current.is
          c.in_ok-current.ensures;
      request = c.args.fields.now;
      holds = holds;
      selection = c.in_ok-selection.selection;
      selects = rw (method.1, c.usual-limits.ensures) at c.in_ok-selection.ensures.selects;
      shown = c.in_ok-show_selection.ensures.shown;
    }
