use Rattle.std.proofs.{Common.{◌≡◌, ◌∙◌, Err, ap, inl, inr, rules, subst, sym}, lemmas.Result.err_from_is_err_and}
use Rattle.{http_header.specs.FieldValue.plain_value, headers.specs.EntityTag.WeaklyEqual}
use Rattle.c_parts.{specs.FieldText.field_lines, proofs.DecodeLemmas.FieldDecodes-fails}
use Rattle.c_library.{specs.Tags.{Compares, quoted_part, reads_tag}, proofs.TagLemmas.Tells-equal}
use Rattle.c_decisions.specs.Targets.{reads_etag}
use Rattle.c_library.proofs.tags.are_weakly_equal.Goals as goal

pub returns-in_err-one : goal.returns-in_err-one
returns-in_err-one c =
    let answer = c.from_residual in
    let error = err_from_is_err_and answer.result answer.ensures.1 in
    let is : answer.result ≡ Err c.in_err-one.field-0.0 = cc (error.1, error.2) in
    subst (Compares WeaklyEqual c.args.one.now c.args.other.now) (sym is)
    (inl (FieldDecodes-fails reads_etag reads_tag c.args.one.now c.in_err-one.field-0.0
    (λ tag read. (plain_value tag, read)) c.in_err-one.ensures))

pub returns-in_err-other : goal.returns-in_err-other
returns-in_err-other c =
    let answer = c.from_residual-in_err-other in
    let error = err_from_is_err_and answer.result answer.ensures.1 in
    let is : answer.result ≡ Err c.in_err-other.field-0.0 = cc (error.1, error.2) in
    subst (Compares WeaklyEqual c.args.one.now c.args.other.now) (sym is)
    (inr (FieldDecodes-fails reads_etag reads_tag c.args.other.now c.in_err-other.field-0.0
    (λ tag read. (plain_value tag, read)) c.in_err-other.ensures))

pub returns-then-eq : goal.returns-then-eq
returns-then-eq c =
    let one = c.in_ok-one.one.bytes in
    let other = c.in_ok-other.other.bytes in
    let equal : c.quoted_part.result.now ≡ c.quoted_part-2.result.now = search rules in
    let same : quoted_part one ≡ quoted_part other =
    sym (c.quoted_part.ensures ∙ ap quoted_part c.as_bytes.ensures.value)
    ∙ equal
    ∙ c.quoted_part-2.ensures
    ∙ ap quoted_part c.as_bytes-2.ensures.value in
    let read = c.in_ok-one.ensures.1 in
    let read_other = c.in_ok-other.ensures.1 in (
      one,
      other,
      read,
      read_other,
      Tells-equal (field_lines c.args.one.now) (field_lines c.args.other.now) one other read.1 read_other.1 same,
    )
