-- What the private functions compute. The theorems of the crate show that it parses the three formats, and no other.
use Rattle.std.specs.Prelude.{ℕ, zero, suc, ◌+◌, ◌*◌, ◌-◌, ◌&&◌, Bool, List, slice_index, length, codes, bytes_eq}
use Rattle.std.specs.Prelude.{Option, Some, None, option_and_then, ◌==◌, nat_lt, nat_le, if◌then◌else◌}
use Rattle.httpdate.{specs.Calendar.days_in_month, specs.Reader.{Read, read_tag, read_two_digits, read_name, read_year}}
use Rattle.httpdate.{specs.Reader.{read_time, read_padded_day}, specs.Text.{comma, space, day_name, day_name_rest}}
use Rattle.httpdate.specs.Text.{month_name}
use Rattle.rfc_values.{specs.declared.date_time.DateTime.DateTime, specs.Calendar.{seconds, unix_epoch, in_year}}

infixl 10 ◌>>=◌
abbrev ◌>>=◌ : {A B : Type 0} → Option A → (A → Option B) → Option B
o >>= f = option_and_then f o

-- `IsDateTime` as a test
abbrev pub is_date_time : DateTime → Bool
is_date_time d =
    nat_le d.year 9999 && nat_le 1 d.month && nat_le d.month 12 && nat_le 1 d.day
    && nat_le d.day (days_in_month d.year d.month) && nat_lt d.hour 24 && nat_lt d.minute 60 && nat_le d.second 60

-- `IsNear` as a test
abbrev pub is_near : ℕ → DateTime → Bool
is_near now d =
    nat_le (seconds (in_year d (d.year - 50))) (unix_epoch + now)
    && nat_lt (unix_epoch + now) (seconds (in_year d (d.year + 50)))

-- the date in the first of n centuries, from this one on, that brings it near now
unfoldable pub in_near_century : ℕ → DateTime → ℕ → ℕ → Option DateTime
in_near_century now d zero century = None
in_near_century now d (suc n) century =
    let here = in_year d (century * 100 + d.year) in
    if is_near now here then Some here else in_near_century now d n (century + 1)

-- a day and a month, with this separator after each
unfoldable pub read_day_and_month : List ℕ → List ℕ → Read (ℕ × ℕ)
read_day_and_month separator text = do
  day ← read_two_digits text
  month ← read_tag separator day.1 >>= read_name month_name 12
  rest ← read_tag separator month.1
  Some ((day.0, month.0), rest)

-- a time in GMT, and nothing after it
unfoldable pub read_time_in_gmt : List ℕ → Option (ℕ × ℕ × ℕ)
read_time_in_gmt text = do
  time ← read_time text
  if bytes_eq time.1 (codes " GMT") then Some time.0 else None

-- the rest of IMF-fixdate, after its day name
unfoldable pub read_imf_fixdate : List ℕ → Option DateTime
read_imf_fixdate text = do
  day_month ← read_tag (codes ", ") text >>= read_day_and_month (codes " ")
  year ← read_year day_month.1
  time ← read_tag (codes " ") year.1 >>= read_time_in_gmt
  Some (record {
    year = year.0;
    month = day_month.0.1;
    day = day_month.0.0;
    hour = time.0;
    minute = time.1;
    second = time.2;
  })

-- the rest of an RFC 850 date, after its day name, with a year below 100
unfoldable pub read_rfc850_date : List ℕ → Option DateTime
read_rfc850_date text = do
  day_month ← read_tag (codes ", ") text >>= read_day_and_month (codes "-")
  year ← read_two_digits day_month.1
  time ← read_tag (codes " ") year.1 >>= read_time_in_gmt
  Some (record {
    year = year.0;
    month = day_month.0.1;
    day = day_month.0.0;
    hour = time.0;
    minute = time.1;
    second = time.2;
  })

-- the rest of an asctime date, after its day name
unfoldable pub read_asctime_date : List ℕ → Option DateTime
read_asctime_date text = do
  month ← read_tag (codes " ") text >>= read_name month_name 12
  day ← read_tag (codes " ") month.1 >>= read_padded_day
  time ← read_tag (codes " ") day.1 >>= read_time
  year ← read_tag (codes " ") time.1 >>= read_year
  if length year.1 == 0
      then Some (record {
        year = year.0;
        month = month.0;
        day = day.0;
        hour = time.0.0;
        minute = time.0.1;
        second = time.0.2;
      })
      else None

-- a date in one of the three formats, after the name of its day
unfoldable pub read_form : ℕ → ℕ → List ℕ → Option DateTime
read_form now named text =
    if slice_index text 0 == comma then read_imf_fixdate text
    else (if slice_index text 0 == space then read_asctime_date text
    else (read_tag (day_name_rest named) text >>= read_rfc850_date >>= (λ d. in_near_century now d 81 19)))

-- the date in one of the three formats that the text shows, if the calendar and the clock have it
unfoldable pub date_time : ℕ → List ℕ → Option DateTime
date_time now text = do
  named ← read_name day_name 7 text
  d ← read_form now named.0 named.1
  if is_date_time d then Some d else None
