use Rattle.{std.{proofs.Common.{[], ◌∙◌, ap}, specs.Option.option_map_or}, cache_store.proofs.EntryLemmas.lookup-shown}
use Rattle.cache_store.proofs.store.Store.responses_by_key.Goals as goal

pub returns-in-Some : goal.returns-in-Some
returns-in-Some c = c.as_slice.ensures.value ∙ (ap (λ o. option_map_or (λ responses. responses.items) o [])
    c.in-Some.ensures ∙ lookup-shown c.args.target.now c.args.self.now.targets.entries)

pub returns-in-None : goal.returns-in-None
returns-in-None c = ap (λ o. option_map_or (λ responses. responses.items) o []) c.in-None.ensures
    ∙ lookup-shown c.args.target.now c.args.self.now.targets.entries
