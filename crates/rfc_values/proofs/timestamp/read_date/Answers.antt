use Rattle.{rfc_values.{proofs.DateLemmas.denotes-timestamp, specs.Date.timestamp}, std.proofs.Common.{arith, rules}}
use Rattle.std.proofs.{Common.{Some, ◌≡◌}, lemmas.Grind.common_steps}
use Rattle.rfc_values.proofs.timestamp.read_date.Goals as goal

pub returns-in_err-date-clause-shown : goal.returns-in_err-date-clause-shown
unfolding timestamp
returns-in_err-date-clause-shown c = grind (arith, denotes-timestamp)

pub returns-clause-shown : goal.returns-clause-shown
unfolding timestamp
returns-clause-shown c =
    let value : Some c.seconds.result ≡ timestamp c.args.now c.args.text.now =
    first_of (search rules, grind (arith, common_steps)) in
    denotes-timestamp _ _ (Some c.seconds.result) value
