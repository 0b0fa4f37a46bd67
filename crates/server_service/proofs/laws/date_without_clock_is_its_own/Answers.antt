use Rattle.server_service.proofs.DateLemmas.{own_date}
use Rattle.server_service.proofs.laws.date_without_clock_is_its_own.Goals as goal

pub returns : goal.returns
returns c = own_date
