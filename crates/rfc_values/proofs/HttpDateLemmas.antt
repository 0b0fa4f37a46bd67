-- What httpdate writes of a second denotes that second.
use Rattle.httpdate.specs.{Date.{date_text, unix_secs}, declared.{date.HttpDate.HttpDate, parts.Parts.Parts}}
use Rattle.rfc_values.proofs.{CalendarLemmas.days_before_year-1970, DateLemmas.timestamp_complete}
use Rattle.rfc_values.specs.{Calendar.{day_number, IsDateTime, seconds, unix_epoch}, Date.timestamp}
use Rattle.{rfc_values.specs.{declared.date_time.DateTime.DateTime, Text.imf_fixdate}, std.proofs.Common.{arith, inl}}
use Rattle.std.{proofs.Common.{refl, Some, ℕ, ◌+◌, ◌-◌, ◌≡◌, ◌≤◌}, specs.Int.IsInRange}
use Rattle.httpdate.specs.Calendar as Http

-- the numbers of a date of httpdate
abbrev shown_by : Parts → DateTime
shown_by p = record { year = p.year; month = p.mon; day = p.day; hour = p.hour; minute = p.min; second = p.sec }

day_number-shown_by : (p : Parts) → 1970 ≤ p.year
    → day_number (shown_by p) ≡ Http.days_from_civil p.year p.mon p.day + 719528
unfolding day_number
day_number-shown_by p h =
    let year : 1970 + (p.year - 1970) ≡ p.year = omega arith in
    let before = rw year at (days_before_year-1970 (p.year - 1970)) in
    omega (arith, before)

seconds-shown_by : (d : HttpDate) → seconds (shown_by d.parts) ≡ unix_epoch + unix_secs d
unfolding seconds
seconds-shown_by d = omega (arith, day_number-shown_by d.parts d.civil.0.0)

imf_fixdate-shown_by : (d : HttpDate) → date_text d ≡ imf_fixdate d.parts.wday (shown_by d.parts)
unfolding imf_fixdate
imf_fixdate-shown_by d = refl

named_day : (d : HttpDate) → IsInRange 1 7 d.parts.wday
named_day d = grind arith

pub timestamp-date_text : (now : ℕ) (d : HttpDate) → timestamp now (date_text d) ≡ Some (unix_epoch + unix_secs d)
timestamp-date_text now d =
    let year = d.civil.0.1 in
    let time = d.time in
    let valid : IsDateTime (shown_by d.parts) = (year, d.civil.1, d.civil.2, time.0, time.1, omega arith) in
    timestamp_complete now (date_text d) (unix_epoch + unix_secs d) (
      shown_by d.parts,
      valid,
      (d.parts.wday, named_day d, inl (imf_fixdate-shown_by d)),
      seconds-shown_by d,
    )
