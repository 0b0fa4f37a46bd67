use Rattle.std.proofs.Common.{refl, rules}
use Rattle.cache_pass.proofs.queue.Queue.enter.Goals as goal

pub returns : goal.returns
returns c = record {
  may = search rules;
  limit = refl;
  number_is = refl;
  next = refl;
  entry = record { number = c.args.self.now.next; key = c.in_ok-key.key; asked = c.args.now };
  named = refl;
  key_is = search rules;
  asked = refl;
  all = search rules;
}
