use Rattle.rfc_values.proofs.HttpDateLemmas.{timestamp-date_text}
use Rattle.rfc_values.proofs.laws.http_dates_read_back.Goals as goal

pub returns : goal.returns
returns c = timestamp-date_text
