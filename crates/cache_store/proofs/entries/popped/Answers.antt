use Rattle.{std.proofs.Common.{ap, None, rules, Some}, cache_store.proofs.EntryLemmas.is-taken}
use Rattle.cache_store.proofs.entries.popped.Goals as goal

pub returns-in-Some : goal.returns-in-Some
returns-in-Some c = let taken = is-taken c.args.target.now c.args.targets.now.entries c.pop.new.self.entries
    (ap (λ m. m.entries) c.pop.ensures.entries) c.len-targets.ensures.valid.0
    (Some c.in-Some.responses) c.in-Some.ensures.value in
    record { taken = taken.are; left = taken.left; counts = taken.counts; cap = search rules }

pub returns-in-None : goal.returns-in-None
returns-in-None c = let taken = is-taken c.args.target.now c.args.targets.now.entries c.pop.new.self.entries
    (ap (λ m. m.entries) c.pop.ensures.entries) c.len-targets.ensures.valid.0 None c.in-None.ensures.value in
    rw c.new.ensures.items (record { taken = taken.are; left = taken.left; counts = taken.counts; cap = search rules })
