use Rattle.headers_items.{proofs.AnswerLemmas.survives_commas, specs.ItemsState.{ItemsState, items_left}}
use Rattle.std.proofs.Common.{◌≡◌}
use Rattle.headers_caching.proofs.vary.Vary.iter_strs.Goals as goal

pub returns-clause-cuts : goal.returns-clause-cuts
returns-clause-cuts c = survives_commas (λ items (walk : ItemsState). items_left walk ≡ items)
