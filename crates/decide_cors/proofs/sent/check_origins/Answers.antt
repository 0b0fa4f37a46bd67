use Rattle.{std.proofs.Common.{arith, rules}, decide_cors.proofs.SentLemmas.{unsent_at, unsent_nowhere}}
use Rattle.decide_cors.proofs.sent.check_origins.Goals as goal

pub returns-then-place-listed-clause-err : goal.returns-then-place-listed-clause-err
returns-then-place-listed-clause-err c =
    unsent_at c.args.listed.now c.in_ok-place.place c.in_ok-place.ensures.count (search (rules, arith))

pub returns-clause-ok : goal.returns-clause-ok
returns-clause-ok c =
    unsent_nowhere c.args.listed.now c.in_ok-place.place c.in_ok-place.ensures.count (search (rules, arith))
