use Rattle.{headers_syntax.{proofs.DateLemmas.date-fixdate, specs.Date.{date, fixdate}}, httpdate.specs.Valid.IsValid}
use Rattle.std.proofs.Common.{Some, subst, ℕ, ◌≡◌}
use Rattle.headers_syntax.proofs.date.date_reads_back.Goals as goal

pub returns : goal.returns
returns c = let d = c.in-Ok._date in let valid : IsValid d.parts = (d.civil, d.time, d.right_day) in
    subst (λ (n : ℕ). date (fixdate n) ≡ Some n) c.in-Ok.ensures.value (date-fixdate d.parts valid)
