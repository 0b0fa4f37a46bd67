use Rattle.{std.proofs.Common.{ap, map, ◌∙◌}, decide_resource.specs.declared.resource.State.State}
use Rattle.server_service.specs.File.{representation_of}
use Rattle.server_service.proofs.service.describe.Goals as goal

pub returns-clause-described : goal.returns-clause-described
returns-clause-described c = record {
  representations = c.in_ok-resource.field-0;
  are = c.in_ok-resource.ensures ∙ ap (map (representation_of c.args.present)) c.deref.ensures.value;
  is = ap (λ (s : State). record c.args.resource.now { state = s; representations = c.in_ok-resource.field-0 })
      c.replace.ensures.value;
}
