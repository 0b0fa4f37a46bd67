use Rattle.std.proofs.{Common.{◌≡◌, ◌∙◌, false, List, Err, ap, sym, subst}, lemmas.Result.err_from_is_err_and}
use Rattle.{http_header.specs.FieldValue.FieldValue, headers.specs.{Lines.lines_of, Typed.HasLine}}
use Rattle.c_decisions.{specs.{Rules.{Finds, FindsOfText, ReadEach}, Star.is_any}, proofs.RuleLemmas.Allows-fails}
use Rattle.c_decisions.proofs.rules.read_allowed.Goals as goal

pub returns-in_err-values : goal.returns-in_err-values
returns-in_err-values g c =
    let values = c.in-Some.lines.items in
    let read = rw c.in-Some.is at c.in_ok-lines.ensures.some in
    let none : is_any (lines_of values) ≡ false =
    ap (λ (all : List FieldValue). is_any (lines_of all)) (sym c.as_slice.ensures.value)
    ∙ sym c.is_any.ensures
    ∙ c.if-is_any.false in
    let answer = c.from_residual-in_err-values in
    let failure = c.in_err-values.field-0.0 in
    let error = err_from_is_err_and answer.result answer.ensures.1 in
    let is : answer.result ≡ Err failure = cc (error.1, error.2) in
    subst (FindsOfText g.T.Listed.reads c.args.text.now) (sym is)
    (Allows-fails g.T.Listed.reads c.args.text.now (lines_of values) read.0 none failure (subst
    (λ (all : List FieldValue). Finds (HasLine (lines_of all)) (ReadEach g.T.Listed.reads (lines_of all)) (Err failure))
    c.as_slice-2.ensures.value c.in_err-values.ensures))
