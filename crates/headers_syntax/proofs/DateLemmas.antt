-- The calendar counted off from 1970, and that a printed date is read back.
use Rattle.headers_syntax.proofs.{NumberLemmas.{number-no_digits, visible}, TextLemmas.{is_text-from_visible, no_text}}
use Rattle.headers_syntax.{proofs.TextLemmas.visible-from_is_text, specs.Date.{IsDated, ShowsDate, date, fixdate}}
use Rattle.headers_syntax.specs.{Date.{parts_at, unit_of}, Lines.Line, Number.{after_plus, number}, Text.is_blank}
use Rattle.headers_syntax.specs.Text.{is_text, trim, trim_end, trim_start}
use Rattle.http_header.specs.{FieldValue.IsVisibleAscii, Token.is_visible_or_blank}
use Rattle.httpdate.proofs.CalendarLemmas.{days_from_civil_bound, days_of_months_all, days_of_months_more}
use Rattle.httpdate.proofs.{FormatLemmas.{imf_fixdate_grouped, parse_complete, parse_sound}, OptionLemmas.and_then_some}
use Rattle.httpdate.proofs.{OptionLemmas.cond_some, ReaderLemmas.clock, ValidLemmas.{is_valid_complete, is_valid_sound}}
use Rattle.httpdate.specs.Calendar.{days_from_civil, days_in_month, days_in_year, days_of_months, days_of_years}
use Rattle.httpdate.specs.{Calendar.weekday, Date.{parse_secs, valid_secs}, Reader.parse, Text.{day_name, four_digits}}
use Rattle.httpdate.specs.{Text.{imf_fixdate, month_name, two_digits}, Valid.{IsValid, is_valid, parts_secs}}
use Rattle.{httpdate.specs.declared.parts.Parts.Parts, std.proofs.Common.{None, Some, [], ap, append_assoc, arith}}
use Rattle.std.proofs.Common.{codes, false, inl, inr, length, refl, suc, sym, take, true, zero, ℕ, ◌%◌, ◌*◌, ◌++◌, ◌+◌}
use Rattle.std.proofs.{Common.{◌-◌, ◌/◌, ◌<◌, ◌∙◌, ◌∷◌, ◌≡◌, ◌≤◌}, lemmas.Bool.{and_from, cases_Bool, cases_lt, le-ltb}}
use Rattle.std.proofs.lemmas.{Bool.{lt-ltb, Decides.nat_tests}, Grind.common_steps, List.{reverse-append, take_all}}
use Rattle.std.proofs.lemmas.List.{Elements.All-from_recursion, Folds.list_all-append, Sums.AllPass-from_list_all}
use Rattle.std.specs.{Int.IsInRange, Str.all_ascii_digits}

-- ---- the calendar

-- units of days from `first` on, the first k of which have `total k` days
module _ (length total : ℕ → ℕ) (first : ℕ) (next : (k : ℕ) → total (suc k) ≡ total k + length (first + k)) where
  total_more : (n k : ℕ) → total n ≤ total (n + k)
  total_more n zero = let same : n + 0 ≡ n = omega arith in rw same (omega arith)
  total_more n (suc k) = grind (arith, total_more n k)

  unit_of-is : (n j k r days : ℕ) → j ≤ k → k ≤ j + n → r < length (first + k) → days + total j ≡ total k + r
      → unit_of length n (first + j) days ≡ (first + k, r)
  unfolding unit_of
  unit_of-is zero j k r days low high inside e = grind arith
  unit_of-is (suc n) j k r days low high inside e = elim (cases_lt j k) [
    | inl less ↦ let same : suc j + (k - suc j) ≡ k = omega arith in
        let up : total (suc j) ≤ total k = rw same at (total_more (suc j) (k - suc j)) in
        let past : length (first + j) ≤ days = omega (arith, next j) in
        let later : first + j + 1 ≡ first + suc j = omega arith in
        rw (le-ltb _ _ past) (rw later
        (unit_of-is n (suc j) k r (days - length (first + j)) less (omega arith) inside (omega (arith, next j))))
    | inr not_less ↦ grind (arith, lt-ltb)
  ]

-- ---- the date of a second

-- what stands after the name of the month, and after the name of the day, up to the end `zone`
abbrev after_month : Parts → Line → Line
after_month p zone = 32 ∷ (four_digits p.year ++ 32 ∷ clock p.hour p.min p.sec zone)

abbrev after_day_name : Parts → Line → Line
after_day_name p zone = 44 ∷ 32 ∷ (two_digits p.day ++ 32 ∷ (month_name p.mon ++ after_month p zone))

days_before : Parts → ℕ
days_before p = days_of_months p.year (p.mon - 1) + (p.day - 1)

next_month : (y k : ℕ) → days_of_months y (suc k) ≡ days_of_months y k + days_in_month y (1 + k)
unfolding days_of_months
next_month y k = let same : 1 + k ≡ suc k = omega arith in rw same refl

in_its_month : (p : Parts) → IsValid p → p.day - 1 < days_in_month p.year (1 + (p.mon - 1))
in_its_month p valid = let same : 1 + (p.mon - 1) ≡ p.mon = omega arith in rw same (omega arith)

in_its_year : (p : Parts) → IsValid p → days_before p < days_in_year p.year
unfolding days_before
in_its_year p valid = let more = days_of_months_more p.year p.mon (omega arith) in
    let up = total_more (days_in_month p.year) (days_of_months p.year) 1 (next_month p.year) p.mon (12 - p.mon) in
    let same : p.mon + (12 - p.mon) ≡ 12 = omega arith in omega (arith, rw same at up, days_of_months_all p.year)

year_of-date : (p : Parts) → IsValid p
    → unit_of days_in_year 8029 1970 (days_from_civil p.year p.mon p.day) ≡ (p.year, days_before p)
unfolding days_before days_of_years
year_of-date p valid = let same : 1970 + (p.year - 1970) ≡ p.year = omega arith in
    let inside : days_before p < days_in_year (1970 + (p.year - 1970)) = rw same (in_its_year p valid) in
    unit_of-is days_in_year days_of_years 1970 (λ k. refl) 8029 0 (p.year - 1970) (days_before p) (days_from_civil
    p.year p.mon p.day) (omega arith) (omega arith) inside (omega arith) ∙ ap (λ y. (y, days_before p)) same

month_of-date : (p : Parts) → IsValid p → unit_of (days_in_month p.year) 11 1 (days_before p) ≡ (p.mon, p.day - 1)
unfolding days_before days_of_months
month_of-date p valid = let same : 1 + (p.mon - 1) ≡ p.mon = omega arith in
    unit_of-is (days_in_month p.year) (days_of_months p.year) 1 (next_month p.year) 11 0 (p.mon - 1) (p.day - 1)
    (days_before p) (omega arith) (omega arith) (in_its_month p valid) (omega arith) ∙ ap (λ m. (m, p.day - 1)) same

-- the day and the time of day of a second
split_secs : (days hour min sec : ℕ) → hour < 24 → min < 60 → sec < 60 → let secs = days * 86400 + hour * 3600 + min
    * 60 + sec in (secs / 86400 ≡ days) × (secs % 86400 / 3600 ≡ hour) × (secs % 3600 / 60 ≡ min) × (secs % 60 ≡ sec)
split_secs days hour min sec h m s = (omega arith, omega arith, omega arith, omega arith)

pub parts_at-is : (p : Parts) → IsValid p → parts_at (parts_secs p) ≡ p
parts_at-is p valid =
    grind (arith, unit_of days_in_year 8029 1970, year_of-date p valid, month_of-date p valid, split_secs, weekday)

pub fixdate-is : (p : Parts) → IsValid p → fixdate (parts_secs p) ≡ imf_fixdate p
unfolding fixdate
fixdate-is p valid = ap imf_fixdate (parts_at-is p valid)

-- ---- a printed date is text, with no space at its ends

record IsText (s : Line) : Type 0 where
  is : is_text s ≡ true

-- text that begins with a byte, with two digits, and with a name
byte_text : (b : ℕ) (rest : Line) → is_visible_or_blank b ≡ true → IsText rest → IsText (b ∷ rest)
byte_text b rest h t = record { is = and_from _ _ h t.is }

digits_text : (n : ℕ) (rest : Line) → n < 100 → IsText rest → IsText (two_digits n ++ rest)
digits_text n rest h t = grind (arith, common_steps, byte_text, visible)

name_text : (name rest : Line) → is_text name ≡ true → IsText rest → IsText (name ++ rest)
name_text name rest h t = record { is = list_all-append is_visible_or_blank name rest ∙ and_from _ _ h t.is }

-- what holds of the name of each day
pub by_day_name : (P : Line → Type 0) → P (codes "Mon") → P (codes "Tue") → P (codes "Wed") → P (codes "Thu")
    → P (codes "Fri") → P (codes "Sat") → P (codes "Sun") → (n : ℕ) → IsInRange 1 7 n → P (day_name n)
by_day_name P mon tue wed thu fri sat sun n h = grind (arith, common_steps, codes, All-from_recursion)

day_name_text : (n : ℕ) → IsInRange 1 7 n → is_text (day_name n) ≡ true
day_name_text = by_day_name (λ name. is_text name ≡ true) refl refl refl refl refl refl refl

month_name_text : (n : ℕ) → IsInRange 1 12 n → is_text (month_name n) ≡ true
month_name_text n h = grind (arith, common_steps, codes, AllPass-from_list_all)

pub wday_range : (p : Parts) → IsValid p → IsInRange 1 7 p.wday
wday_range p valid = let e = valid.2 in (omega arith, omega arith)

day_range : (y m : ℕ) → days_in_month y m ≤ 31
day_range y m = grind (arith, nat_tests)

fixdate_text : (p : Parts) → IsValid p → is_text (imf_fixdate p) ≡ true
fixdate_text p valid = let day : p.day < 100 = omega (arith, day_range p.year p.mon) in
    let whole : IsText (day_name p.wday ++ after_day_name p (codes " GMT")) = name_text (day_name p.wday) _
    (day_name_text p.wday (wday_range p valid)) (byte_text _ _ refl (byte_text _ _ refl (digits_text p.day _ day
    (byte_text _ _ refl (name_text (month_name p.mon) _ (month_name_text p.mon valid.0.1) (byte_text _ _ refl
    (digits_text (p.year / 100) _ (omega arith) (digits_text (p.year % 100) _ (omega arith) (byte_text _ _ refl
    (digits_text p.hour _ (omega arith) (grind (arith, common_steps, byte_text, digits_text)))))))))))) in
    ap is_text (imf_fixdate_grouped p) ∙ whole.is

-- what ends in a byte that is no space or tab has none to trim there
trim_end_same : (front : Line) (last : ℕ) → is_blank last ≡ false → trim_end (front ++ last ∷ []) ≡ front ++ last ∷ []
trim_end_same front last h = grind (arith, common_steps, reverse-append, take, take_all)

letter_first : (n : ℕ) (rest : Line) → IsInRange 1 7 n → trim_start (day_name n ++ rest) ≡ day_name n ++ rest
letter_first n rest = grind arith

-- a printed date ends in a letter
last_letter : (p : Parts) → imf_fixdate p ≡ (day_name p.wday ++ after_day_name p (codes " GM")) ++ 84 ∷ []
last_letter p = imf_fixdate_grouped p ∙ sym (grind (arith, common_steps, append_assoc, codes, month_name))

fixdate_trimmed : (p : Parts) → IsValid p → trim (imf_fixdate p) ≡ imf_fixdate p
fixdate_trimmed p valid = ap trim (imf_fixdate_grouped p) ∙ ap trim_end
    (grind (arith, common_steps, letter_first, codes, wday_range, imf_fixdate_grouped, last_letter)) ∙ trim_end_same
    (day_name p.wday ++ after_day_name p (codes " GM")) 84 refl ∙ sym (last_letter p)

pub fixdate_visible : (p : Parts) → IsValid p → IsVisibleAscii (imf_fixdate p)
fixdate_visible p valid = visible-from_is_text (imf_fixdate p) (fixdate_text p valid)

-- ---- a printed date reads as its second

pub date-fixdate : (p : Parts) → IsValid p → date (fixdate (parts_secs p)) ≡ Some (parts_secs p)
unfolding date
date-fixdate p valid = rw (
  fixdate-is p valid,
  fixdate_text p valid,
  fixdate_trimmed p valid,
  parse_complete (imf_fixdate p) p valid (inl refl),
  is_valid_complete p valid,
)

pub shows-date : (line : Line) (n : ℕ) → date line ≡ Some n → ShowsDate line n
unfolding date
shows-date line n e = elim (cases_Bool (is_text line)) [
  | inl t ↦ let shown : parse_secs (trim line) ≡ Some n = rw t at e in
      and_then_some valid_secs (parse (trim line)) n shown λ p read secs.
      let (valid, same) = cond_some (is_valid p) (parts_secs p) n secs in
      (t, (p, is_valid_sound p valid, parse_sound (trim line) p read, same))
  | inr f ↦ let none : None ≡ Some n = rw f at e in absurd (cc none)
]

pub date-shows : (line : Line) (n : ℕ) → ShowsDate line n → date line ≡ Some n
unfolding date
date-shows line n (t, (p, valid, shown, same)) =
    rw (t, parse_complete (trim line) p valid shown, is_valid_complete p valid, same)

-- the date that a line shows is a valid one
pub date_parts : (line : Line) (n : ℕ) → date line ≡ Some n → (p : Parts) × IsValid p × (parts_secs p ≡ n)
date_parts line n e = let (text, (p, valid, shown, same)) = shows-date line n e in (p, valid, same)

-- which lies before the year 10000
pub date_bound : (line : Line) (n : ℕ) → date line ≡ Some n → IsDated n
date_bound line n e = grind (arith, date_parts line n e, days_from_civil_bound)

pub date_back : (line : Line) (n : ℕ) → date line ≡ Some n → date (fixdate n) ≡ Some n
date_back line n e = grind (arith, date_parts line n e, date, date-fixdate)

-- ---- where a date is read

pub date-text : (line : Line) → IsVisibleAscii line → date line ≡ parse_secs (trim line)
unfolding date
date-text line h = rw (is_text-from_visible line h) refl

pub date-no_text : (line : Line) → ¬ (IsVisibleAscii line) → date line ≡ None
unfolding date
date-no_text line h = rw (no_text line h) refl

-- ---- a printed date is no number

name_no_digits : (n : ℕ) (rest : Line) → IsInRange 1 7 n → all_ascii_digits (after_plus (day_name n ++ rest)) ≡ false
name_no_digits n rest = grind (arith, after_plus)

pub number-fixdate : (line : Line) (n : ℕ) → date line ≡ Some n → number (fixdate n) ≡ None
number-fixdate line n e = let shown = date_parts line n e in let p = shown.0 in
    let printed = ap fixdate (sym shown.2) ∙ fixdate-is p shown.1 ∙ imf_fixdate_grouped p in
    ap number printed ∙ number-no_digits (day_name p.wday ++ after_day_name p (codes " GMT"))
    (name_no_digits p.wday (after_day_name p (codes " GMT")) (wday_range p shown.1))
