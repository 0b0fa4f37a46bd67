use Rattle.std.proofs.Common.{◌≡◌, arith, inl, length}
use Rattle.headers_items.{proofs.AnswerLemmas.survives_semicolons, specs.Pairs.pairs}
use Rattle.headers_lists.proofs.cookie.Cookie.len.Goals as goal

pub count-requires-clause-fits : goal.count-requires-clause-fits
count-requires-clause-fits c = let fits = c.iter.ensures.count in inl (omega arith)

pub returns-clause-cuts : goal.returns-clause-cuts
returns-clause-cuts c = survives_semicolons (λ items count. count ≡ length (pairs items))
