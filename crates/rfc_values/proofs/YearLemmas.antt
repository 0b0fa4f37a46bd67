-- Years that end with the same two digits, and which of them is near now.
use Rattle.rfc_values.proofs.CalendarLemmas.{days_before_year_closed, days_before_year_later, days_of_months_bound}
use Rattle.rfc_values.{proofs.CalendarLemmas.{days_of_months_near, short_month}, specs.Calendar.{day_number, in_year}}
use Rattle.rfc_values.specs.{Calendar.{IsDateTime, IsNear, seconds, unix_epoch}, declared.date_time.DateTime.DateTime}
use Rattle.{rfc_values.specs.Reader.{in_near_century, is_near}, std.proofs.Common.{arith, false, inl, inr, nat_lt}}
use Rattle.std.proofs.Common.{None, refl, Some, suc, sym, true, zero, ℕ, ◌%◌, ◌*◌, ◌+◌, ◌-◌, ◌/◌, ◌<◌, ◌∙◌, ◌≡◌, ◌≤◌}
use Rattle.std.proofs.lemmas.Bool.{and_parts, cases_Bool, Decides.nat_tests, leb-true, ltb-false, ltb-true}
use Rattle.std.proofs.lemmas.Option.{none-some, same_Some}

-- ---- the search of a century

pub near_here : (now : ℕ) (d here : DateTime) (n century : ℕ) → 1 ≤ n → here ≡ in_year d (century * 100 + d.year)
    → is_near now here ≡ true → in_near_century now d n century ≡ Some here
unfolding in_near_century
near_here now d here n century some is near = grind arith

pub near_later : (now : ℕ) (d here : DateTime) (n century : ℕ) → 1 ≤ n → here ≡ in_year d (century * 100 + d.year)
    → is_near now here ≡ false → in_near_century now d n century ≡ in_near_century now d (n - 1) (century + 1)
unfolding in_near_century
near_later now d here n century some is far = grind arith

pub near_none : (now : ℕ) (d : DateTime) (n century : ℕ) → n ≡ 0 → in_near_century now d n century ≡ None
unfolding in_near_century
near_none now d n century none = grind arith

-- ---- the test

pub is_near_sound : (now : ℕ) (d : DateTime) → is_near now d ≡ true → IsNear now d
is_near_sound now d h = let both = and_parts _ _ h in (leb-true _ _ both.0, ltb-true _ _ both.1)

pub is_near_complete : (now : ℕ) (d : DateTime) → IsNear now d → is_near now d ≡ true
is_near_complete now d h = grind (arith, nat_tests)

-- ---- the order of years

-- the same day and time of a later year comes later, or in no year earlier
seconds_later : (d : DateTime) (y z : ℕ) → y ≤ z → seconds (in_year d y) ≤ seconds (in_year d z)
unfolding seconds day_number
seconds_later d y z h = elim (cases_Bool (nat_lt y z)) [
  | inl t ↦ let less : y < z = ltb-true _ _ t in
      omega (arith, days_before_year_later y z h, days_of_months_near y z (d.month - 1))
  | inr f ↦ let same : y ≡ z = (let not_less : z ≤ y = ltb-false _ _ f in omega arith) in
      rw same (omega arith)
]

-- what a date of the calendar has
valid_day : (d : DateTime) → IsDateTime d → (d.day ≤ 31) × (d.month ≤ 12)
valid_day d h = let short = short_month d.year d.month in (omega arith, omega arith)

-- a date before 1950 lies before 1970
seconds_early : (d : DateTime) (y : ℕ) → IsDateTime d → y ≤ 1949 → seconds (in_year d y) < unix_epoch
unfolding seconds day_number
seconds_early d y valid h =
    grind (arith, valid_day, days_before_year_later, days_before_year_closed, days_of_months_bound)

-- of the years that end with the same digits, a date is near now in one at most
far_before : (now : ℕ) (d : DateTime) (y z : ℕ) → IsNear now (in_year d z) → y + 100 ≤ z
    → is_near now (in_year d y) ≡ false
far_before now d y z near h = grind (arith, seconds_later)

-- a date near now lies in a year from 1900 on
near_from_1900 : (now : ℕ) (d : DateTime) → IsDateTime d → IsNear now d → 1900 ≤ d.year
near_from_1900 now d valid near = grind (arith, cases_Bool, nat_lt, ltb-true, seconds_early, ltb-false)

-- the search finds the date that is near now, from any century that is not later than its own
found_from : (now : ℕ) (d : DateTime) (n century : ℕ) → IsNear now d → century ≤ d.year / 100
    → d.year / 100 < century + n → in_near_century now (in_year d (d.year % 100)) n century ≡ Some d
found_from now d zero century near low high = absurd (omega arith)
found_from now d (suc n) century near low high = elim (cases_Bool (nat_lt century (d.year / 100))) [
  | inl t ↦ let before : century < d.year / 100 = ltb-true _ _ t in
      let far = far_before now d (century * 100 + d.year % 100) d.year near (omega arith) in
      let back : suc n - 1 ≡ n = omega arith in
      let found = found_from now d n (century + 1) near (omega arith) (omega arith) in
      near_later now (in_year d (d.year % 100)) _ (suc n) century (omega arith) refl far ∙ rw back found
  | inr f ↦ let last : d.year / 100 ≤ century = ltb-false _ _ f in
      let here : century * 100 + d.year % 100 ≡ d.year = omega arith in
      near_here now (in_year d (d.year % 100)) d (suc n) century (omega arith)
      (λ i. record d { year = sym here i }) (is_near_complete now d near)
]

pub near_century_complete : (now : ℕ) (d : DateTime) → IsDateTime d → IsNear now d
    → in_near_century now (in_year d (d.year % 100)) 81 19 ≡ Some d
near_century_complete now d valid near =
    let from_1900 = near_from_1900 now d valid near in
    found_from now d 81 19 near (omega arith) (omega arith)

-- and it finds no other: the date is near now, in some century
abbrev pub IsNearBy : ℕ → DateTime → DateTime → Type 0
IsNearBy now short d = (century : ℕ) × (d ≡ in_year short (century * 100 + short.year)) × IsNear now d

pub near_century_sound : (now : ℕ) (short d : DateTime) (n century : ℕ) → in_near_century now short n century ≡ Some d
    → IsNearBy now short d
unfolding in_near_century
near_century_sound now short d zero century e = absurd (none-some _ e)
near_century_sound now short d (suc n) century e =
    grind (arith, same_Some, is_near_sound, near_century_sound now short d n (century + 1))
