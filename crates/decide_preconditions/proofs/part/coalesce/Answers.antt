use Rattle.{std.proofs.Common.arith, decide_preconditions.proofs.PartLemmas.{coalesced_from, covers_from, rises}}
use Rattle.decide_preconditions.proofs.part.coalesce.Goals as goal

pub returns-clause-coalesced : goal.returns-clause-coalesced
returns-clause-coalesced c =
    rw (c.merge.ensures) (coalesced_from c.args.len c.args.gap c.args.parts.items c.sort.new.parts.items
    c.sort.ensures.permutation (rises 0 _ (λ k d l. omega arith) c.sort.ensures.sorted) c.requires)

pub returns-clause-same : goal.returns-clause-same
returns-clause-same c =
    λ p. rw (c.merge.ensures) (covers_from c.args.len c.args.gap p c.args.parts.items c.sort.new.parts.items
    c.sort.ensures.permutation (rises 0 _ (λ k d l. omega arith) c.sort.ensures.sorted) c.requires)
