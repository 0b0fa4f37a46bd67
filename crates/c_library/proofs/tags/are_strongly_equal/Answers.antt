use Rattle.std.proofs.{Common.{◌≡◌, Err, inl, inr, subst, sym}, lemmas.Result.err_from_is_err_and}
use Rattle.{http_header.specs.FieldValue.plain_value, headers.specs.EntityTag.StronglyEqual}
use Rattle.{c_library.specs.Tags.{Compares, reads_tag}, c_decisions.specs.Targets.reads_etag}
use Rattle.c_parts.proofs.DecodeLemmas.{FieldDecodes-fails}
use Rattle.c_library.proofs.tags.are_strongly_equal.Goals as goal

pub returns-in_err-one : goal.returns-in_err-one
returns-in_err-one c =
    let answer = c.from_residual in
    let error = err_from_is_err_and answer.result answer.ensures.1 in
    let is : answer.result ≡ Err c.in_err-one.field-0.0 = cc (error.1, error.2) in
    subst (Compares StronglyEqual c.args.one.now c.args.other.now) (sym is)
    (inl (FieldDecodes-fails reads_etag reads_tag c.args.one.now c.in_err-one.field-0.0
    (λ tag read. (plain_value tag, read)) c.in_err-one.ensures))

pub returns-in_err-other : goal.returns-in_err-other
returns-in_err-other c =
    let answer = c.from_residual-in_err-other in
    let error = err_from_is_err_and answer.result answer.ensures.1 in
    let is : answer.result ≡ Err c.in_err-other.field-0.0 = cc (error.1, error.2) in
    subst (Compares StronglyEqual c.args.one.now c.args.other.now) (sym is)
    (inr (FieldDecodes-fails reads_etag reads_tag c.args.other.now c.in_err-other.field-0.0
    (λ tag read. (plain_value tag, read)) c.in_err-other.ensures))
