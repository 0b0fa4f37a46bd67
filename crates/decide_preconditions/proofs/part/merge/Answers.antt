use Rattle.{std.proofs.Common.rules, decide_preconditions.proofs.PartLemmas.merged_from_dedup}
use Rattle.decide_preconditions.proofs.part.merge.Goals as goal

pub returns : goal.returns
returns c =
    merged_from_dedup _ c.args.gap _ (λ next part b f' next' part' k. search rules) _ _ c.dedup_by.ensures.filtered
