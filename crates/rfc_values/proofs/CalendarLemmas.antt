-- The sums of the calendar in closed form, and their order.
use Rattle.httpdate.specs.Calendar.{days_in_month, days_in_year, days_of_months, days_of_years}
use Rattle.{rfc_values.specs.Calendar.days_before_year, std.proofs.Common.{arith, refl, suc, zero, ℕ, ◌*◌, ◌+◌, ◌-◌}}
use Rattle.std.proofs.{Common.{◌/◌, ◌≡◌, ◌≤◌}, lemmas.Bool.Decides.nat_tests}

-- the days before the year y, by its leap years: each fourth but each hundredth, and each four hundredth
abbrev pub days_before : ℕ → ℕ
days_before y = y * 365 + (y + 3) / 4 - (y + 99) / 100 + (y + 399) / 400

days_before-suc : (y : ℕ) → days_before (suc y) ≡ days_before y + days_in_year y
days_before-suc y = grind (arith, nat_tests)

pub days_before_year_closed : (y : ℕ) → days_before_year y ≡ days_before y
unfolding days_before_year
days_before_year_closed zero = refl
days_before_year_closed (suc y) = grind (arith, days_before-suc, days_before_year_closed y)

-- from 1970 on, as httpdate counts
pub days_before_year-1970 : (n : ℕ) → days_before_year (1970 + n) ≡ days_of_years n + 719528
unfolding days_before_year days_of_years
days_before_year-1970 zero = days_before_year_closed 1970
days_before_year-1970 (suc n) =
    let before = days_before_year-1970 n in
    let next : 1970 + suc n ≡ suc (1970 + n) = omega arith in
    rw next (omega arith)

long_year : (y : ℕ) → 365 ≤ days_in_year y
long_year y = grind (arith, nat_tests)

pub short_month : (y m : ℕ) → days_in_month y m ≤ 31
short_month y m = grind (arith, nat_tests)

days_before_year_more : (y k : ℕ) → days_before_year y + 365 * k ≤ days_before_year (y + k)
unfolding days_before_year
days_before_year_more y zero = let same : y + 0 ≡ y = omega arith in rw same (omega arith)
days_before_year_more y (suc k) =
    let before = days_before_year_more y k in
    let next : y + suc k ≡ suc (y + k) = omega arith in
    let more = long_year (y + k) in
    rw next (omega arith)

pub days_before_year_later : (y z : ℕ) → y ≤ z → days_before_year y + 365 * (z - y) ≤ days_before_year z
days_before_year_later y z h =
    let same : y + (z - y) ≡ z = omega arith in
    rw same at (days_before_year_more y (z - y))

pub days_of_months_bound : (y n : ℕ) → days_of_months y n ≤ 31 * n
unfolding days_of_months
days_of_months_bound y zero = omega arith
days_of_months_bound y (suc n) = grind (arith, short_month, days_of_months_bound y n)

near_february : (y z m : ℕ) → days_in_month y m ≤ days_in_month z m + 1
near_february y z m = grind (arith, nat_tests)

other_month : (y z m : ℕ) → 3 ≤ m → days_in_month y m ≡ days_in_month z m
other_month y z m h = grind (arith, nat_tests)

-- the months of two years differ by a day at most
pub days_of_months_near : (y z n : ℕ) → days_of_months y n ≤ days_of_months z n + 1
unfolding days_of_months
days_of_months_near y z zero = omega arith
days_of_months_near y z (suc zero) = omega arith
days_of_months_near y z (suc (suc zero)) = let near = near_february y z 2 in omega arith
days_of_months_near y z (suc (suc (suc n))) = grind (arith, other_month, days_of_months_near y z (suc (suc n)))
