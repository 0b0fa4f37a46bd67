use Rattle.std.proofs.{Common.{refl, rules}, lemmas.Fn.filter_same}
use Rattle.cache_pass.proofs.queue.Queue.leave.Goals as goal

pub returns : goal.returns
returns c = record {
  limit = refl;
  next = refl;
  rest = filter_same _ _ _ (λ x b f' k. search rules) _ _ c.retain.ensures.filtered;
}
