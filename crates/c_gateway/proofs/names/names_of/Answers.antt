use Rattle.std.proofs.{Common.{◌≡◌, ℕ, ◌+◌, List, Err, sym, subst, take}, lemmas.Result.err_from_is_err_and}
use Rattle.{http_header.specs.{FieldName.IsFieldName, Token.lowercase}, headers.specs.Lines.lines_of}
use Rattle.{c_parts.specs.FieldText.IsNameOf, c_gateway.{specs.Names.ReadsNames, proofs.NameLemmas.All-more}}
use Rattle.c_gateway.proofs.NameLemmas.{ReadsNames-fails, lines_of-more, names-more}
use Rattle.c_gateway.proofs.names.names_of.Goals as goal

pub loop-line-preserved : goal.loop-line-preserved
loop-line-preserved c =
    let lines = c.args.lines.now in
    let i = c.loop-line.line-index in
    let before = lines_of (take i lines) in
    let after = lines_of (take (i + 1) lines) in
    let line = c.line-item.result in
    let next = lines_of-more lines i line c.loop-line-test.true c.line-item.is in
    let name = rw c.as_bytes.ensures.value at c.in_ok-read_name.ensures in
    record {
      are_names = All-more IsFieldName before after line.bytes next c.loop-line.invariant.are_names name.0;
      names = rw (c.in_ok-push.ensures.items, name.1)
          (names-more lowercase before after line.bytes c.loop-line.names.items next c.loop-line.invariant.names);
    }

pub returns-in_err-read_name : goal.returns-in_err-read_name
returns-in_err-read_name c =
    let answer = c.from_residual in
    let failure = c.in_err-read_name.field-0.0 in
    let error = err_from_is_err_and answer.result answer.ensures.1 in
    let is : answer.result ≡ Err failure = cc (error.1, error.2) in
    let failed =
    subst (λ (name : List ℕ). IsNameOf name (Err failure)) c.as_bytes.ensures.value c.in_err-read_name.ensures in
    subst (ReadsNames (lines_of c.args.lines.now)) (sym is)
    (ReadsNames-fails c.args.lines.now c.loop-line.line-index c.line-item.result c.loop-line-test.true c.line-item.is
    failure failed)
