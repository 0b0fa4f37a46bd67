-- Dates of cookies (RFC 6265, section 5.1.1).
use Rattle.std.specs.Prelude.{ℕ, ◌+◌, ◌-◌, ◌/◌, ◌%◌, ◌^◌, Bool, ◌&&◌, ◌||◌, ◌==◌, List, [], ◌∷◌, ◌++◌, length, take}
use Rattle.std.specs.Prelude.{drop, Option, Some, None, codes, nat_le, nat_lt, option_and_then, option_map}
use Rattle.std.specs.{Prelude.{if◌then◌else◌, is_some}, Char.is_ascii_digit, Int.is_in_range, List.position}
use Rattle.{std.specs.{List.{prefix_len, slice_split}, Option.option_map_or}, headers_syntax.specs.AsciiCase.same_name}
use Rattle.{rfc_fields.specs.{Cuts.cut, Numbers.number_within}, httpdate.specs.Calendar.days_in_month}
use Rattle.rfc_lists.specs.{Extended.hyphen, declared.cookie_dates.{CookieDate.CookieDate, Found.Found, Time.Time}}

-- b':'
abbrev pub colon : ℕ
colon = 58

abbrev pub is_delimiter : ℕ → Bool
is_delimiter b =
    b == 9 || is_in_range 0x20 0x2F b || is_in_range 0x3B 0x40 b || is_in_range 0x5B 0x60 b || is_in_range 0x7B 0x7E b

-- the number of the digits that a text begins with, if they are as many as this at least and at most
abbrev pub leading : ℕ → ℕ → List ℕ → Option ℕ
leading least most text =
    if nat_le least (prefix_len is_ascii_digit text) && nat_le (prefix_len is_ascii_digit text) most
    then number_within (2 ^ 64 - 1) (take (prefix_len is_ascii_digit text) text) else None

-- the number that a text is, of one or two digits
abbrev pub time_field : List ℕ → Option ℕ
time_field text = if prefix_len is_ascii_digit text == length text then leading 1 2 text else None

abbrev pub minute_and_second : ℕ → List ℕ × List ℕ → Option Time
minute_and_second hour sides =
    option_and_then (λ minute. option_map (λ second. record { hour = hour; minute = minute; second = second })
    (leading 1 2 sides.1)) (time_field sides.0)

abbrev pub hour_and_rest : List ℕ × List ℕ → Option Time
hour_and_rest sides =
    option_and_then (λ hour. option_and_then (minute_and_second hour) (cut colon sides.1)) (time_field sides.0)

-- hms-time, and perhaps a non-digit and more
abbrev pub time_of : List ℕ → Option Time
time_of token = option_and_then hour_and_rest (cut colon token)

-- the place of a text among others, in any case, the first of which has this place
abbrev pub place_from : ℕ → List ℕ → List (List ℕ) → Option ℕ
place_from place text [] = None
place_from place text (name ∷ names) = if same_name text name then Some place else place_from (place + 1) text names

abbrev pub month_named : List ℕ → Option ℕ
month_named name =
    place_from 1 name
    (codes "jan" ∷ codes "feb" ∷ codes "mar" ∷ codes "apr" ∷ codes "may" ∷ codes "jun" ∷ codes "jul" ∷ codes "aug"
    ∷ codes "sep" ∷ codes "oct" ∷ codes "nov" ∷ codes "dec" ∷ [])

-- the month whose name a token begins with
abbrev pub month_of : List ℕ → Option ℕ
month_of token = month_named (take 3 token)

-- what is not yet found, and is in a token
abbrev pub newly : {A : Type 0} → Option A → Option A → Option A
newly found new = if is_some found then None else new

-- What is found with one more token: it is the time, the day of the month, the month or the year, the first of these
-- that isn't yet found and that it can be.
abbrev pub with_token : Found → List ℕ → Found
with_token found token =
    option_map_or (λ time. record found { time = Some time })
    (newly found.time (time_of token))
    (option_map_or (λ day. record found { day = Some day })
    (newly found.day (leading 1 2 token))
    (option_map_or (λ month. record found { month = Some month })
    (newly found.month (month_of token))
    (option_map_or (λ year. record found { year = Some year })
    (newly found.year (leading 2 4 token)) found)))

-- what is found with some more tokens
unfoldable pub with_tokens : Found → List (List ℕ) → Found
with_tokens found [] = found
with_tokens found (token ∷ tokens) = with_tokens (with_token found token) tokens

-- a year of two digits is of 1970 to 2069
abbrev pub full_year : ℕ → ℕ
full_year year =
    if is_in_range 70 99 year then year + 1900 else (if nat_le year 69 then year + 2000 else year)

-- the calendar has the day, in a year from 1601 on, and the clock has the time
abbrev pub is_date : CookieDate → Bool
is_date d =
    nat_le 1601 d.year && nat_le 1 d.day && nat_le d.day (days_in_month d.year d.month)
    && nat_lt d.hour 24 && nat_lt d.minute 60 && nat_lt d.second 60

-- the date of what is found, if all is found and there's such a date
abbrev pub found_date : Found → Option CookieDate
found_date f =
    option_and_then (λ (time : Time). option_and_then (λ day. option_and_then (λ month. option_and_then (λ year.
    let date : CookieDate =
    record {
      year = full_year year;
      month = month;
      day = day;
      hour = time.hour;
      minute = time.minute;
      second = time.second;
    } in
    if is_date date then Some date else None) f.year) f.month) f.day) f.time

abbrev pub nothing : Found
nothing = record { time = None; day = None; month = None; year = None }

-- a token, and what follows the delimiter after it
abbrev pub cut_token : List ℕ → Option (List ℕ × List ℕ)
cut_token text = option_map (λ k. (take k text, drop (k + 1) text)) (position is_delimiter text)

-- the date that a text is, by the tokens between its delimiters
abbrev pub cookie_date : List ℕ → Option CookieDate
cookie_date text = found_date (with_tokens nothing (slice_split is_delimiter text))

-- the digit of a number at the place of this weight
abbrev pub digit_at : ℕ → ℕ → ℕ
digit_at weight number = 48 + number / weight % 10

abbrev pub two_digits : ℕ → List ℕ
two_digits number = digit_at 10 number ∷ digit_at 1 number ∷ []

-- A date as RFC 3339 has it. One before 1970, which no time of these packages can be, is 1970's first second: a
-- recipient may replace a date by the earliest that it can represent (RFC 6265, section 5.2.1).
abbrev pub date_text : CookieDate → List ℕ
date_text d =
    if nat_lt d.year 1970 then codes "1970-01-01T00:00:00Z"
    else digit_at 1000 d.year ∷ digit_at 100 d.year ∷ two_digits d.year
    ++ hyphen ∷ two_digits d.month ++ hyphen ∷ two_digits d.day
    ++ 84 ∷ two_digits d.hour ++ colon ∷ two_digits d.minute ++ colon ∷ two_digits d.second ++ 90 ∷ []
