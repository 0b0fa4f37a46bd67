use Rattle.std.{proofs.Common.{◌∙◌, arith}, specs.List.slice_range, proofs.lemmas.Grind.common_steps}
use Rattle.headers_syntax.proofs.TrimLemmas.{slice_slice, trim_from_lengths}
use Rattle.headers_syntax.proofs.trimming.trimmed.Goals as goal

pub returns-clause-value : goal.returns-clause-value
returns-clause-value c =
    let s = c.args.bytes.now in let low = c.leading-low.result in let n = c.without_trailing.result in
    slice_slice s c.args.start c.args.end low n c.requires.order (grind (arith, common_steps)) ∙ trim_from_lengths
    (slice_range s c.args.start c.args.end) low n c.leading-low.ensures.value c.without_trailing.ensures.value
