use Rattle.std.{proofs.Common.{◌-◌, arith}, proofs.lemmas.Bool.Decides.nat_tests}
use Rattle.httpdate.proofs.CalendarLemmas.{days_of_months_closed}
use Rattle.rfc_values.proofs.date_time.days_before_month.Goals as goal

pub returns-clause-value : goal.returns-clause-value
returns-clause-value c = grind (arith, nat_tests, days_of_months_closed c.args.year (c.args.month - 1) (omega arith))
