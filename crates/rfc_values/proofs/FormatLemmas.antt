-- The functions that read the three forms read them, and nothing else.
use Rattle.httpdate.proofs.{OptionLemmas.{and_then_some, cond_some, same_parts}, ReaderLemmas.{after_tag_sound, clock}}
use Rattle.httpdate.proofs.ReaderLemmas.{read_name-month_name, read_name_sound, read_padded_day_sound, read_tag_sound}
use Rattle.httpdate.proofs.ReaderLemmas.{read_time_complete, read_time_sound, read_two_digits_complete}
use Rattle.httpdate.proofs.ReaderLemmas.{read_two_digits_sound, read_year_complete, read_year_sound}
use Rattle.httpdate.specs.Reader.{read_name, read_padded_day, read_tag, read_time, read_two_digits, read_year}
use Rattle.httpdate.specs.Text.{day_name, day_name_rest, four_digits, month_name, two_digits}
use Rattle.rfc_values.specs.{Calendar.in_year, declared.date_time.DateTime.DateTime, Reader.read_asctime_date}
use Rattle.rfc_values.specs.Reader.{read_day_and_month, read_imf_fixdate, read_rfc850_date, read_time_in_gmt}
use Rattle.{rfc_values.specs.Text.{asctime_date, imf_fixdate, rfc850_date}, std.proofs.Common.{[], ap, append_assoc}}
use Rattle.std.proofs.Common.{arith, eqb-true, inl, inr, List, option_and_then, rules, Some, subst, ℕ, ◌%◌, ◌++◌, ◌+◌}
use Rattle.std.proofs.{Common.{◌<◌, ◌∙◌, ◌∷◌, ◌≡◌, ◌≤◌, ◌⊎◌}, lemmas.{List.nil_from_length, Option.same_Some}}
use Rattle.std.{proofs.lemmas.Slice.Eq.bytes_eq-Decides, specs.Int.IsInRange}

abbrev gmt : List ℕ
gmt = 32 ∷ 71 ∷ 77 ∷ 84 ∷ []

-- each form after the name of the day, grouped as it is read
abbrev pub imf_rest : DateTime → List ℕ
imf_rest d = 44 ∷ 32 ∷ (two_digits d.day ++ 32 ∷ (month_name d.month ++ 32 ∷ (four_digits d.year
    ++ 32 ∷ clock d.hour d.minute d.second gmt)))

abbrev pub rfc850_rest : DateTime → List ℕ
rfc850_rest d = 44 ∷ 32 ∷ (two_digits d.day ++ 45 ∷ (month_name d.month ++ 45 ∷ (two_digits (d.year % 100)
    ++ 32 ∷ clock d.hour d.minute d.second gmt)))

abbrev pub asctime_rest : List ℕ → DateTime → List ℕ
asctime_rest day d =
    32 ∷ (month_name d.month ++ 32 ∷ (day ++ 32 ∷ clock d.hour d.minute d.second (32 ∷ (four_digits d.year ++ []))))

pub imf_fixdate_grouped : (named : ℕ) (d : DateTime) → imf_fixdate named d ≡ day_name named ++ imf_rest d
unfolding imf_fixdate
imf_fixdate_grouped named d = simp append_assoc

pub rfc850_date_grouped : (named : ℕ) (d : DateTime)
    → rfc850_date named d ≡ day_name named ++ (day_name_rest named ++ rfc850_rest d)
unfolding rfc850_date
rfc850_date_grouped named d = simp append_assoc

pub asctime_date_grouped : (named : ℕ) (day : List ℕ) (d : DateTime)
    → asctime_date named day d ≡ day_name named ++ asctime_rest day d
unfolding asctime_date
asctime_date_grouped named day d = simp append_assoc

-- the numbers fit their places
pub record Fits (d : DateTime) : Type 0 where
  pub year : d.year ≤ 9999
  pub month : IsInRange 1 12 d.month
  pub day : d.day < 100
  pub hour : d.hour < 100
  pub minute : d.minute < 100
  pub second : d.second < 100

module _ (d : DateTime) (h : Fits d) where
  pub imf_complete : read_imf_fixdate (imf_rest d) ≡ Some d
  unfolding read_imf_fixdate read_day_and_month read_time_in_gmt read_tag
  imf_complete = search (rules, read_two_digits_complete, read_name-month_name, read_year_complete, read_time_complete)

  pub rfc850_complete : read_rfc850_date (rfc850_rest d) ≡ Some (in_year d (d.year % 100))
  unfolding read_rfc850_date read_day_and_month read_time_in_gmt read_tag
  rfc850_complete = rw (
    read_two_digits_complete d.day _ h.day,
    read_name-month_name d.month _ h.month,
    read_two_digits_complete (d.year % 100) _ (omega arith),
    read_time_complete d.hour d.minute d.second gmt h.hour h.minute h.second,
  )

  pub asctime_complete : (day : List ℕ) → ((rest : List ℕ) → read_padded_day (day ++ rest) ≡ Some (d.day, rest))
      → read_asctime_date (asctime_rest day d) ≡ Some d
  unfolding read_asctime_date read_tag
  asctime_complete day read = rw (
    read_name-month_name d.month _ h.month,
    read,
    read_time_complete d.hour d.minute d.second _ h.hour h.minute h.second,
    read_year_complete d.year [] h.year,
  )

-- a date by its parts
abbrev with_day : ℕ → ℕ → ℕ → DateTime
with_day year month day = record { year = year; month = month; day = day; hour = 0; minute = 0; second = 0 }

abbrev with_time : DateTime → ℕ × ℕ × ℕ → DateTime
with_time d time = record d { hour = time.0; minute = time.1; second = time.2 }

day_and_month_sound : (separator text rest : List ℕ) (day month : ℕ)
    → read_day_and_month separator text ≡ Some ((day, month), rest)
    → text ≡ two_digits day ++ (separator ++ (month_name month ++ (separator ++ rest)))
unfolding read_day_and_month
day_and_month_sound separator text rest day month e = and_then_some _ (read_two_digits text) _ e λ d read_day e₁.
    and_then_some _ (option_and_then (read_name month_name 12) (read_tag separator d.1)) _ e₁ λ m led_month e₂.
    after_tag_sound separator d.1 (read_name month_name 12) m led_month λ at_month tag_month got_month. and_then_some _
    (read_tag separator m.1) _ e₂ λ r tagged e₃.
    let (value, left) = same_parts (d.0, m.0) (day, month) r rest (e₃) in
    let first = (read_two_digits_sound text d.1 d.0 read_day).1 in
    let second = (read_name_sound month_name 12 at_month m.1 m.0 got_month).1 in
    let third = read_tag_sound separator m.1 r tagged in
    let shown : text ≡ two_digits d.0 ++ (separator ++ (month_name m.0 ++ (separator ++ r))) = cc in
    shown ∙ ap (λ v. two_digits v.0 ++ (separator ++ (month_name v.1 ++ (separator ++ r)))) value
    ∙ ap (λ v. two_digits day ++ (separator ++ (month_name month ++ (separator ++ v)))) left

time_in_gmt_sound : (text : List ℕ) (time : ℕ × ℕ × ℕ) → read_time_in_gmt text ≡ Some time
    → text ≡ clock time.0 time.1 time.2 gmt
unfolding read_time_in_gmt
time_in_gmt_sound text time e = grind (arith, and_then_some, cond_some, bytes_eq-Decides, read_time_sound, clock)

pub imf_sound : (text : List ℕ) (d : DateTime) → read_imf_fixdate text ≡ Some d → text ≡ imf_rest d
unfolding read_imf_fixdate
imf_sound text d e =
    let tagged = option_and_then (read_day_and_month (32 ∷ [])) (read_tag (44 ∷ 32 ∷ []) text) in
    and_then_some _ tagged _ e λ front led e₁. after_tag_sound (44 ∷ 32 ∷ []) text (read_day_and_month (32 ∷ [])) front
    led λ at_day tag_day got_day. and_then_some _ (read_year front.1) _ e₁ λ year got_year e₂. and_then_some _
    (option_and_then read_time_in_gmt (read_tag (32 ∷ []) year.1)) _ e₂ λ time led_time e₃. after_tag_sound (32 ∷ [])
    year.1 read_time_in_gmt time led_time λ at_time tag_time got_time.
    let q = with_time (with_day year.0 front.0.1 front.0.0) time in
    let same : q ≡ d = same_Some _ _ e₃ in
    let m = day_and_month_sound (32 ∷ []) at_day front.1 front.0.0 front.0.1 got_day in
    let y = read_year_sound front.1 year.1 year.0 got_year in
    let t = time_in_gmt_sound at_time time got_time in
    let shown : text ≡ imf_rest q = cc in
    shown ∙ ap imf_rest same

-- the year that is read has two digits, and stands for any year that ends with them
pub rfc850_sound : (text : List ℕ) (d : DateTime) → read_rfc850_date text ≡ Some d
    → (d.year < 100) × (text ≡ rfc850_rest d)
unfolding read_rfc850_date
rfc850_sound text d e =
    let tagged = option_and_then (read_day_and_month (45 ∷ [])) (read_tag (44 ∷ 32 ∷ []) text) in
    and_then_some _ tagged _ e λ front led e₁. after_tag_sound (44 ∷ 32 ∷ []) text (read_day_and_month (45 ∷ [])) front
    led λ at_day tag_day got_day. and_then_some _ (read_two_digits front.1) _ e₁ λ year got_year e₂. and_then_some _
    (option_and_then read_time_in_gmt (read_tag (32 ∷ []) year.1)) _ e₂ λ time led_time e₃. after_tag_sound (32 ∷ [])
    year.1 read_time_in_gmt time led_time λ at_time tag_time got_time.
    let q = with_time (with_day year.0 front.0.1 front.0.0) time in
    let same : q ≡ d = same_Some _ _ e₃ in
    let m = day_and_month_sound (45 ∷ []) at_day front.1 front.0.0 front.0.1 got_day in
    let (small, y) = read_two_digits_sound front.1 year.1 year.0 got_year in
    let t = time_in_gmt_sound at_time time got_time in
    let short : year.0 % 100 ≡ year.0 = omega arith in
    let shown : text ≡ rfc850_rest q = rw short (cc) in
    (subst (λ r. r.year < 100) same small, shown ∙ ap rfc850_rest same)

-- the day has two digits, or a space and a digit
abbrev pub ShownByAsctime : List ℕ → DateTime → Type 0
ShownByAsctime text d =
    (text ≡ asctime_rest (two_digits d.day) d) ⊎ ((text ≡ asctime_rest (32 ∷ (48 + d.day) ∷ []) d) × (d.day < 10))

pub asctime_sound : (text : List ℕ) (d : DateTime) → read_asctime_date text ≡ Some d → ShownByAsctime text d
unfolding read_asctime_date
asctime_sound text d e = and_then_some _ (option_and_then (read_name month_name 12) (read_tag (32 ∷ []) text)) _ e λ mon
    led_mon e₁. after_tag_sound (32 ∷ []) text (read_name month_name 12) mon led_mon λ at_mon tag_mon got_mon.
    and_then_some _ (option_and_then read_padded_day (read_tag (32 ∷ []) mon.1)) _ e₁ λ day led_day e₂. after_tag_sound
    (32 ∷ []) mon.1 read_padded_day day led_day λ at_day tag_day got_day. and_then_some _
    (option_and_then read_time (read_tag (32 ∷ []) day.1)) _ e₂ λ time led_time e₃. after_tag_sound (32 ∷ []) day.1
    read_time time led_time λ at_time tag_time got_time. and_then_some _
    (option_and_then read_year (read_tag (32 ∷ []) time.1)) _ e₃ λ year led_year e₄. after_tag_sound (32 ∷ []) time.1
    read_year year led_year λ at_year tag_year got_year.
    let q = with_time (with_day year.0 mon.0 day.0) time.0 in
    let (test, same) = cond_some _ q d e₄ in
    let end = nil_from_length year.1 (eqb-true _ _ test) in
    let m = (read_name_sound month_name 12 at_mon mon.1 mon.0 got_mon).1 in
    let y = read_year_sound at_year year.1 year.0 got_year in
    let t = read_time_sound at_time time.1 time.0 got_time in
    let shown : ShownByAsctime text q =
    elim (read_padded_day_sound at_day day.1 day.0 got_day) [ inl d ↦ inl (cc) | inr d ↦ inr (cc d.0, d.1) ] in
    subst (ShownByAsctime text) same shown
