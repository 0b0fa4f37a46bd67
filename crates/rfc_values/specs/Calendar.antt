-- The proleptic Gregorian calendar, counted from the start of the year 0.
use Rattle.std.{specs.Prelude.{ℕ, zero, suc, ◌+◌, ◌-◌, ◌*◌, ◌<◌, ◌≤◌}, specs.Int.IsInRange}
use Rattle.httpdate.specs.Calendar.{days_in_year, days_in_month, days_of_months}
use Rattle.rfc_values.specs.declared.date_time.DateTime.{DateTime}

-- the days of the years before this one
unfoldable pub days_before_year : ℕ → ℕ
days_before_year zero = 0
days_before_year (suc year) = days_before_year year + days_in_year year

-- the days from 1 January of the year 0 to this day
unfoldable pub day_number : DateTime → ℕ
day_number d = days_before_year d.year + days_of_months d.year (d.month - 1) + (d.day - 1)

-- The seconds from the start of the year 0, with no leap seconds counted: a second 60 is the one after second 59.
unfoldable pub seconds : DateTime → ℕ
seconds d = day_number d * 86400 + d.hour * 3600 + d.minute * 60 + d.second

-- the seconds from the start of the year 0 to that of 1970
abbrev pub unix_epoch : ℕ
unix_epoch = 62_167_219_200

-- the calendar has this day, in a year of four digits, and the clock has this time, with a second 60 in each minute
abbrev pub IsDateTime : DateTime → Type 0
IsDateTime d = (d.year ≤ 9999) × IsInRange 1 12 d.month × IsInRange 1 (days_in_month d.year d.month) d.day
    × (d.hour < 24) × (d.minute < 60) × (d.second ≤ 60)

-- The same day and time of another year. 29 February counts as 1 March in a year without it.
abbrev pub in_year : DateTime → ℕ → DateTime
in_year d year = record d { year = year }

-- Which year two digits mean: the date isn't more than fifty years in the future, and in the next year with these
-- digits it would be. A date is more than fifty years in the future if the same day and time fifty years earlier is
-- still to come. `now` counts from 1970.
abbrev pub IsNear : ℕ → DateTime → Type 0
IsNear now d =
    (seconds (in_year d (d.year - 50)) ≤ unix_epoch + now) × (unix_epoch + now < seconds (in_year d (d.year + 50)))
