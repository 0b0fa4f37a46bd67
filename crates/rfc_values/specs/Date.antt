-- Which second a text denotes as an HTTP-date (RFC 9110, section 5.6.7).
use Rattle.std.{specs.Prelude.{◌≡◌, ℕ, ◌+◌, ◌<◌, ◌⊎◌, List, [], ◌∷◌, Option, option_map}, specs.Int.IsInRange}
use Rattle.httpdate.specs.Text.{space, digit_zero, two_digits}
use Rattle.rfc_values.{specs.declared.date_time.DateTime.DateTime, specs.Calendar.{seconds, IsDateTime, IsNear}}
use Rattle.rfc_values.{specs.Reader.date_time, specs.Text.{imf_fixdate, rfc850_date, asctime_date}}

-- The text shows the date in one of the three formats, with the name of this day of the week. In the RFC 850 format the
-- two digits mean the year near now. In the asctime format a day below 10 has a zero or a space before its digit.
abbrev pub ShowsNamed : ℕ → ℕ → List ℕ → DateTime → Type 0
ShowsNamed now named text d =
    (text ≡ imf_fixdate named d)
    ⊎ (((text ≡ rfc850_date named d) × IsNear now d)
    ⊎ ((text ≡ asctime_date named (two_digits d.day) d)
    ⊎ ((text ≡ asctime_date named (space ∷ (digit_zero + d.day) ∷ []) d) × (d.day < 10))))

-- The text shows the date, with the name of some day of the week. The grammar asks for a name, and for no certain one,
-- so a wrong name doesn't change the date.
abbrev pub ShowsDate : ℕ → List ℕ → DateTime → Type 0
ShowsDate now text d = (named : ℕ) × IsInRange 1 7 named × ShowsNamed now named text d

-- The text denotes this time: it shows a date that the calendar and the clock have. The time counts from the start of
-- the year 0, and `now` from 1970.
abbrev pub Denotes : ℕ → List ℕ → ℕ → Type 0
Denotes now text second = (d : DateTime) × IsDateTime d × ShowsDate now text d × (seconds d ≡ second)

-- the same as a function: the time that the text denotes, if it denotes one
unfoldable pub timestamp : ℕ → List ℕ → Option ℕ
timestamp now text = option_map seconds (date_time now text)
