use Rattle.std.{proofs.Common.{◌≡◌, Err, sym, subst}, proofs.lemmas.Result.err_from_is_err_and}
use Rattle.headers.{specs.Lines.lines_of, specs.Typed.HasLine}
use Rattle.c_decisions.{specs.Rules.{Finds, ReadEach}, proofs.RuleLemmas.{AllZip-more, ReadEach-fails}}
use Rattle.c_decisions.proofs.rules.read_each.Goals as goal

pub loop-line-preserved : goal.loop-line-preserved
loop-line-preserved g c = rw c.in_ok-push.ensures.items
    (AllZip-more g.T.Listed.reads c.args.lines.now c.loop-line.line-index c.line-item.result c.loop-line.values.items
    c.in_ok-value.value c.loop-line-test.true c.line-item.is c.loop-line.invariant c.in_ok-value.ensures)

pub returns-in_err-value : goal.returns-in_err-value
returns-in_err-value g c =
    let answer = c.from_residual in
    let failure = c.in_err-value.field-0.0 in
    let error = err_from_is_err_and answer.result answer.ensures.1 in
    let is : answer.result ≡ Err failure = cc (error.1, error.2) in
    subst (Finds (HasLine (lines_of c.args.lines.now)) (ReadEach g.T.Listed.reads (lines_of c.args.lines.now))) (sym is)
    (ReadEach-fails g.T.Listed.reads c.args.lines.now c.loop-line.line-index c.line-item.result failure
    c.loop-line-test.true c.line-item.is c.in_err-value.ensures)
