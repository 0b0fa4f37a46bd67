use Rattle.{std.proofs.Common.{◌∙◌, ap, bytes_eq, sym}, cache_store.proofs.EntryLemmas.first-shown}
use Rattle.cache_store.proofs.store.Store.responses.Goals as goal

pub returns-in-Some : goal.returns-in-Some
returns-in-Some c =
    c.as_slice.ensures.value ∙ first-shown _ _ (c.in-Some.key.now, c.in-Some.responses.now) (sym c.in-Some.ensures)
    (sym (c.eq.ensures ∙ ap (λ text. bytes_eq c.args.target.now text) c.as_str.ensures.value) ∙ c.if-eq.true)
