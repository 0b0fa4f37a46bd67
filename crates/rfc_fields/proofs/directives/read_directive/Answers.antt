use Rattle.{std.proofs.Common.{sym, ◌∙◌, arith}, rfc_fields.proofs.DirectiveLemmas.{no_name, argument_at, directive_at}}
use Rattle.rfc_fields.proofs.directives.read_directive.Goals as goal

pub returns-then-end-eq0 : goal.returns-then-end-eq0
returns-then-end-eq0 c = no_name c.args.text.now (sym c.token_len-end.ensures.value ∙ c.if-end-eq0.true)

pub returns-in-Ok : goal.returns-in-Ok
returns-in-Ok c = directive_at _ _ _ c.token_len-end.ensures.value (omega (arith, c.if-end-eq0.false)) c.in-Ok.ensures

pub returns-in-Err : goal.returns-in-Err
returns-in-Err c = λ d h. c.in-Err.ensures d.argument (argument_at _ _ d c.token_len-end.ensures.value h)
