use Rattle.rfc_values.proofs.DateLemmas.{timestamp_sound, timestamp_complete}
use Rattle.rfc_values.proofs.laws.timestamps_by_the_calendar.Goals as goal

pub returns : goal.returns
returns c = λ now text second. (timestamp_sound now text second, timestamp_complete now text second)
