use Rattle.std.proofs.Common.{◌≡◌, ◌∙◌, ℕ, ◌<◌, List, [], ◌∷◌, ◌++◌, All, Err, ap, get_or, length, subst, sym, take}
use Rattle.std.proofs.lemmas.{List.Elements.All-push, Result.err_from_is_err_and}
use Rattle.{http_header.specs.{FieldValue.FieldValue, Token.IsToken}, headers.specs.Lines.{Line, lines_of}}
use Rattle.c_decisions.{specs.Methods.IsMethodOf, proofs.RuleLemmas.HasLine-below}
use Rattle.c_parts.specs.declared.status.Failure.{Failure, TheVariants.{Refused, Memory, Absent, TooLarge}}
use Rattle.c_resource.{specs.Implemented.AreMethods, proofs.ListLemmas.{All-at, line_at, lines_of-more}}
use Rattle.c_resource.proofs.implemented.methods_of.Goals as goal

-- what a failure to read one line says of all
fails : (lines : List FieldValue) (place : ℕ) (line : FieldValue) (failure : Failure) → place < length lines
    → line ≡ get_or lines place line → IsMethodOf line.bytes (Err failure) → AreMethods (lines_of lines) (Err failure)
fails lines place line Refused below is none =
    λ all. none (All-at IsToken (lines_of lines) place line.bytes all (line_at lines place line below is))
fails lines place line Memory below is long = HasLine-below lines place below
fails lines place line Absent below is never = never
fails lines place line TooLarge below is never = never

pub returns-in_err-read_method : goal.returns-in_err-read_method
returns-in_err-read_method c =
    let answer = c.from_residual in
    let failure = c.in_err-read_method.field-0.0 in
    let error = err_from_is_err_and answer.result answer.ensures.1 in
    let is : answer.result ≡ Err failure = cc (error.1, error.2) in
    let line = c.line-item.result in
    let bytes : c.as_bytes.result.now ≡ line.bytes = cc c.as_bytes.ensures.value in
    subst (AreMethods (lines_of c.args.lines.now)) (sym is)
    (fails c.args.lines.now c.loop-line.line-index line failure c.loop-line-test.true c.line-item.is
    (subst (λ (text : Line). IsMethodOf text (Err failure)) bytes c.in_err-read_method.ensures))

pub loop-line-preserved : goal.loop-line-preserved
loop-line-preserved c =
    let lines = c.args.lines.now in
    let place = c.loop-line.line-index in
    let line = c.line-item.result in
    let method = c.in_ok-read_method.field-0 in
    let old = c.loop-line.methods.items in
    let read = c.in_ok-read_method.ensures in
    let same : method ≡ line.bytes = cc (read.1, c.as_bytes.ensures.value) in
    let items : c.push.new.self.items ≡ old ++ method ∷ [] = cc c.in_ok-push.ensures.items in
    let all = All-push IsToken old method c.loop-line.invariant.0 (subst IsToken (sym read.1) read.0) in (
      subst (All IsToken) (sym items) all,
      items
          ∙ ap (λ (before : List Line). before ++ method ∷ []) c.loop-line.invariant.1
          ∙ ap (λ (last : Line). lines_of (take place lines) ++ last ∷ []) same
          ∙ sym (lines_of-more lines place line c.loop-line-test.true c.line-item.is),
    )
