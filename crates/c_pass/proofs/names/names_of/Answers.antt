use Rattle.std.proofs.{Common.{◌≡◌, ℕ, List, Err, sym, subst}, lemmas.Result.err_from_is_err_and}
use Rattle.{http_header.specs.{FieldName.IsFieldName, Token.lowercase}, headers.specs.Lines.lines_of}
use Rattle.{c_parts.specs.FieldText.IsNameOf, c_pass.{specs.Names.IsNamesOf, proofs.NameLemmas.names-fails}}
use Rattle.c_pass.proofs.NameLemmas.{names-more}
use Rattle.c_pass.proofs.names.names_of.Goals as goal

pub loop-line-preserved : goal.loop-line-preserved
loop-line-preserved c = rw c.in_ok-push.ensures.items
    (names-more c.args.lines.now c.loop-line.line-index c.line-item.result c.loop-line.names.items c.in_ok-name.name
    c.loop-line-test.true c.line-item.is c.loop-line.invariant
    (subst (λ (text : List ℕ). IsFieldName text × (c.in_ok-name.name ≡ lowercase text)) c.as_bytes.ensures.value
    c.in_ok-name.ensures))

pub returns-in_err-name : goal.returns-in_err-name
returns-in_err-name c =
    let answer = c.from_residual in
    let failure = c.in_err-name.field-0.0 in
    let error = err_from_is_err_and answer.result answer.ensures.1 in
    let is : answer.result ≡ Err failure = cc (error.1, error.2) in
    subst (IsNamesOf (lines_of c.args.lines.now)) (sym is)
    (names-fails c.args.lines.now c.loop-line.line-index c.line-item.result failure c.loop-line-test.true c.line-item.is
    (subst (λ (text : List ℕ). IsNameOf text (Err failure)) c.as_bytes.ensures.value c.in_err-name.ensures))
