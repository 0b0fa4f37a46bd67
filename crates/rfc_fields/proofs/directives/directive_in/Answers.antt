use Rattle.{std.proofs.Common.sym, rfc_fields.proofs.DirectiveInLemmas.{directive_in-from, directive_in-none}}
use Rattle.rfc_fields.proofs.directives.directive_in.Goals as goal

pub returns-in-Ok : goal.returns-in-Ok
returns-in-Ok c = sym (directive_in-from _ _ (rw c.in-Ok.is at c.read_directive.ensures))

pub returns-in-Err : goal.returns-in-Err
returns-in-Err c = sym (directive_in-none c.args.text.now (rw c.in-Err.is at c.read_directive.ensures))
