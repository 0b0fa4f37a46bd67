use Rattle.headers_syntax.proofs.DateLemmas.{shows-date, date-shows, fixdate-is, date_bound}
use Rattle.headers_syntax.proofs.date.dates_by_the_calendar.Goals as goal

pub returns : goal.returns
returns c = record {
  read = λ line secs. (shows-date line secs, date-shows line secs);
  bound = date_bound;
  printed = fixdate-is;
}
