-- Dates in field lines, as seconds since 1970, and the text of the date of a time.
use Rattle.std.specs.Prelude.{ℕ, zero, suc, ◌+◌, ◌-◌, ◌/◌, ◌%◌, ◌<◌, Option, None, if◌then◌else◌, nat_lt, ◌≡◌, IsTrue}
use Rattle.httpdate.{specs.declared.parts.Parts.Parts, specs.Calendar.{days_in_year, days_in_month, weekday}}
use Rattle.httpdate.{specs.Date.{IsPartsText, parse_secs}, specs.Text.imf_fixdate, specs.Valid.{IsValid, parts_secs}}
use Rattle.headers_syntax.{specs.Lines.Line, specs.Text.{is_text, trim}}

-- the time that a field line shows: the line is text that is, without spaces and tabs at its ends, a date in one of the
-- three formats
unfoldable pub date : Line → Option ℕ
date line = if is_text line then parse_secs (trim line) else None

-- the time is before the year 10000
abbrev pub IsDated : ℕ → Type 0
IsDated secs = secs < 253_402_300_800

-- The unit in which a day lies, a year or a month, and how many days of it have passed, if `days` have passed since
-- `unit` began. `length` says how many days each has. At most n units are counted off.
unfoldable pub unit_of : (ℕ → ℕ) → ℕ → ℕ → ℕ → ℕ × ℕ
unit_of length zero unit days = (unit, days)
unit_of length (suc n) unit days = if nat_lt days (length unit) then (unit, days)
    else unit_of length n (unit + 1) (days - length unit)

-- the date and the time of day this many seconds after the start of 1970, up to 8029 years and 11 months later
abbrev pub parts_at : ℕ → Parts
parts_at secs =
    let days = secs / 86400 in
    let year = unit_of days_in_year 8029 1970 days in
    let month = unit_of (days_in_month year.0) 11 1 year.1 in
    record {
      year = year.0;
      mon = month.0;
      day = month.1 + 1;
      hour = secs % 86400 / 3600;
      min = secs % 3600 / 60;
      sec = secs % 60;
      wday = weekday days;
    }

-- that date as IMF-fixdate (RFC 9110, section 5.6.7)
unfoldable pub fixdate : ℕ → Line
fixdate secs = imf_fixdate (parts_at secs)

-- The line is text. Without spaces and tabs at its ends, it shows the date of this time in one of the three formats.
abbrev pub ShowsDate : Line → ℕ → Type 0
ShowsDate line secs = IsTrue (is_text line)
    × ((p : Parts) × IsValid p × IsPartsText (trim line) p × (parts_secs p ≡ secs))
