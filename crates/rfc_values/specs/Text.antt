-- The three formats of a date (RFC 9110, section 5.6.7), each with the name of a day of the week; Monday is 1.
use Rattle.std.specs.Prelude.{ℕ, ◌%◌, List, ◌++◌, codes}
use Rattle.httpdate.specs.Text.{day_name, day_name_rest, month_name, two_digits, four_digits}
use Rattle.rfc_values.specs.declared.date_time.DateTime.{DateTime}

-- `08:49:37`
abbrev pub time_of_day : DateTime → List ℕ
time_of_day d =
    two_digits d.hour ++ codes ":" ++ two_digits d.minute ++ codes ":" ++ two_digits d.second

-- IMF-fixdate: `Sun, 06 Nov 1994 08:49:37 GMT`
unfoldable pub imf_fixdate : ℕ → DateTime → List ℕ
imf_fixdate named d =
    day_name named ++ codes ", " ++ two_digits d.day ++ codes " " ++ month_name d.month ++ codes " "
    ++ four_digits d.year ++ codes " " ++ time_of_day d ++ codes " GMT"

-- the RFC 850 format, with the last two digits of the year: `Sunday, 06-Nov-94 08:49:37 GMT`
unfoldable pub rfc850_date : ℕ → DateTime → List ℕ
rfc850_date named d =
    day_name named ++ day_name_rest named ++ codes ", " ++ two_digits d.day ++ codes "-"
    ++ month_name d.month ++ codes "-" ++ two_digits (d.year % 100) ++ codes " " ++ time_of_day d ++ codes " GMT"

-- the asctime format, with the text of the day given: `Sun Nov  6 08:49:37 1994`
unfoldable pub asctime_date : ℕ → List ℕ → DateTime → List ℕ
asctime_date named day d =
    day_name named ++ codes " " ++ month_name d.month ++ codes " " ++ day ++ codes " " ++ time_of_day d
    ++ codes " " ++ four_digits d.year
