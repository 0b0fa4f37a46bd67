use Rattle.{std.proofs.Common.{◌∙◌, ap}, http_header.specs.FieldValue.FieldValue}
use Rattle.decide_preconditions.specs.{Tags.are_equal, declared.tags.Comparison.TheVariants.Strong}
use Rattle.decide_preconditions.proofs.TagLemmas.{bool_of, strongly_equal}
use Rattle.decide_preconditions.proofs.tags.is_strongly_equal.Goals as goal

pub returns : goal.returns
returns c = bool_of _ _ _ c.strong_eq_bytes.ensures (strongly_equal c.args.text.now c.tag_of.result.now.bytes)
    ∙ ap (λ (etag : FieldValue). are_equal Strong c.args.text.now etag.bytes) c.tag_of.ensures
