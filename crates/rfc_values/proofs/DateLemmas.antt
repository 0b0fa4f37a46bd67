-- The function that reads a date reads exactly what the definition says.
use Rattle.httpdate.proofs.{OptionLemmas.{and_then_some, cond_some}, ReaderLemmas.{after_tag_sound, read_name-day_name}}
use Rattle.httpdate.proofs.ReaderLemmas.{read_name_sound, read_padded_day_digits, read_padded_day_space}
use Rattle.httpdate.{proofs.ReaderLemmas.read_tag_complete, specs.Reader.{read_name, read_padded_day, read_tag}}
use Rattle.{httpdate.specs.Text.{day_name, day_name_rest, two_digits}, rfc_values.proofs.CalendarLemmas.short_month}
use Rattle.rfc_values.proofs.FormatLemmas.{asctime_complete, asctime_date_grouped, asctime_rest, asctime_sound, Fits}
use Rattle.rfc_values.proofs.FormatLemmas.{imf_complete, imf_fixdate_grouped, imf_rest, imf_sound, rfc850_complete}
use Rattle.rfc_values.proofs.FormatLemmas.{rfc850_date_grouped, rfc850_rest, rfc850_sound}
use Rattle.rfc_values.{proofs.YearLemmas.{near_century_complete, near_century_sound}, specs.Calendar.in_year}
use Rattle.rfc_values.specs.{Calendar.{IsDateTime, IsNear, seconds}, Date.{Denotes, ShowsDate, ShowsNamed, timestamp}}
use Rattle.rfc_values.specs.{declared.date_time.DateTime.DateTime, Reader.{date_time, in_near_century, is_date_time}}
use Rattle.rfc_values.specs.Reader.{read_asctime_date, read_form, read_imf_fixdate, read_rfc850_date}
use Rattle.std.proofs.Common.{[], ap, arith, Bool, cond, false, get_or, inl, inr, List, MatchOption, None, Option}
use Rattle.std.proofs.Common.{option_and_then, option_map, refl, Some, subst, sym, true, ℕ, ◌%◌, ◌*◌, ◌++◌, ◌+◌, ◌==◌}
use Rattle.std.proofs.{Common.{◌∙◌, ◌∷◌, ◌≡◌}, lemmas.Bool.{and_parts, Decides.nat_tests, leb-true, ltb-true}}
use Rattle.std.{proofs.lemmas.Option.{none-some, same_Some}, specs.Int.IsInRange}

-- ---- the test of a date

is_date_time_sound : (d : DateTime) → is_date_time d ≡ true → IsDateTime d
is_date_time_sound d h = grind (arith, and_parts, leb-true, ltb-true)

is_date_time_complete : (d : DateTime) → IsDateTime d → is_date_time d ≡ true
is_date_time_complete d h = grind (arith, nat_tests)

Fits_valid : (d : DateTime) → IsDateTime d → Fits d
Fits_valid d h = grind (arith, short_month)

-- ---- each form after the name of the day

-- the rest of a day's name begins with a letter
letter : (n : ℕ) (rest : List ℕ) → IsInRange 1 7 n
    → ((get_or (day_name_rest n ++ rest) 0 0 == 44) ≡ false) × ((get_or (day_name_rest n ++ rest) 0 0 == 32) ≡ false)
letter n rest h = grind arith

-- a date with its form, as read after the name of its day
module _ (now named : ℕ) (d : DateTime) (is_day : IsInRange 1 7 named) (valid : IsDateTime d) where
  read_imf : read_form now named (imf_rest d) ≡ Some d
  unfolding read_form
  read_imf = imf_complete d (Fits_valid d valid)

  read_rfc850 : IsNear now d → read_form now named (day_name_rest named ++ rfc850_rest d) ≡ Some d
  unfolding read_form
  read_rfc850 near =
      grind (arith, letter, rfc850_rest, read_tag_complete, rfc850_complete, Fits_valid, near_century_complete)

  read_asctime : (day : List ℕ) → ((rest : List ℕ) → read_padded_day (day ++ rest) ≡ Some (d.day, rest))
      → read_form now named (asctime_rest day d) ≡ Some d
  unfolding read_form
  read_asctime day read = asctime_complete d (Fits_valid d valid) day read

-- ---- the whole date

named_complete : (now named : ℕ) (text rest : List ℕ) (d : DateTime) → IsInRange 1 7 named → IsDateTime d
    → text ≡ day_name named ++ rest → read_form now named rest ≡ Some d → date_time now text ≡ Some d
unfolding date_time
named_complete now named text rest d is_day valid led read =
    let test = is_date_time_complete d valid in
    rw (led, read_name-day_name named rest is_day, read, test)

pub date_time_complete : (now : ℕ) (text : List ℕ) (d : DateTime) → IsDateTime d → ShowsDate now text d
    → date_time now text ≡ Some d
date_time_complete now text d valid (named, is_day, shown) = by shown
  where
    by : ShowsNamed now named text d → date_time now text ≡ Some d
    by (inl e) = named_complete now named text _ d is_day valid (e ∙ imf_fixdate_grouped named d)
        (read_imf now named d is_day valid)
    by (inr (inl e)) = named_complete now named text _ d is_day valid (e.0 ∙ rfc850_date_grouped named d)
        (read_rfc850 now named d is_day valid e.1)
    by (inr (inr (inl e))) =
        let fits = Fits_valid d valid in
        named_complete now named text _ d is_day valid (e ∙ asctime_date_grouped named (two_digits d.day) d)
        (read_asctime now named d is_day valid (two_digits d.day) (λ rest. read_padded_day_digits d.day rest fits.day))
    by (inr (inr (inr e))) = named_complete now named text _ d is_day valid
        (e.0 ∙ asctime_date_grouped named (32 ∷ (48 + d.day) ∷ []) d)
        (read_asctime now named d is_day valid (32 ∷ (48 + d.day) ∷ []) (λ rest. read_padded_day_space d.day rest e.1))

-- what parses where the rest begins with a space or not, and where it begins with a comma or not
abbrev read_with_space : ℕ → ℕ → List ℕ → Bool → Option DateTime
read_with_space now named rest space = cond space (read_asctime_date rest)
    (option_and_then (λ short. in_near_century now short 81 19)
    (option_and_then read_rfc850_date (read_tag (day_name_rest named) rest)))

abbrev read_with_comma : ℕ → ℕ → List ℕ → Bool → Bool → Option DateTime
read_with_comma now named rest comma space = cond comma (read_imf_fixdate rest) (read_with_space now named rest space)

module _ (now named : ℕ) (text rest : List ℕ) (d : DateTime) (led : text ≡ day_name named ++ rest) where
  whole : (shown : List ℕ) → rest ≡ shown → text ≡ day_name named ++ shown
  whole shown e = led ∙ ap (λ r. day_name named ++ r) e

  other : (space : Bool) → read_with_space now named rest space ≡ Some d → ShowsNamed now named text d
  other true e = grind (arith, asctime_sound, whole, asctime_date_grouped)
  other false e =
      let tagged = option_and_then read_rfc850_date (read_tag (day_name_rest named) rest) in
      and_then_some _ tagged _ e λ short read found.
      after_tag_sound (day_name_rest named) rest read_rfc850_date short read λ after long got.
      let (small, shown) = rfc850_sound after short got in
      let (century, is, near) = near_century_sound now short d 81 19 found in
      let digits : (century * 100 + short.year) % 100 ≡ short.year % 100 = omega arith in
      let same : rfc850_rest short ≡ rfc850_rest (in_year short (century * 100 + short.year)) = rw digits in
      let rest_is = long ∙ ap (λ r. day_name_rest named ++ r) (shown ∙ same ∙ ap rfc850_rest (sym is)) in
      inr (inl (whole _ rest_is ∙ sym (rfc850_date_grouped named d), near))

  by_comma : (comma space : Bool) → read_with_comma now named rest comma space ≡ Some d → ShowsNamed now named text d
  by_comma comma space e = grind (arith, other, whole, imf_sound, imf_fixdate_grouped)

form_sound : (now named : ℕ) (text rest : List ℕ) (d : DateTime) → text ≡ day_name named ++ rest
    → read_form now named rest ≡ Some d → ShowsNamed now named text d
unfolding read_form
form_sound now named text rest d led e = by_comma now named text rest d led _ _ e

pub date_time_sound : (now : ℕ) (text : List ℕ) (d : DateTime) → date_time now text ≡ Some d
    → IsDateTime d × ShowsDate now text d
unfolding date_time
date_time_sound now text d e = and_then_some _ (read_name day_name 7 text) _ e λ named read e₁. and_then_some _
    (read_form now named.0 named.1) _ e₁ λ found formed e₂.
    let (test, same) = cond_some _ found d e₂ in
    let (is_day, led) = read_name_sound day_name 7 text named.1 named.0 read in
    subst (λ x. IsDateTime x × ShowsDate now text x) same
    (is_date_time_sound found test, (named.0, is_day, form_sound now named.0 text named.1 found led formed))

-- ---- the second that it denotes

pub timestamp_complete : (now : ℕ) (text : List ℕ) (second : ℕ) → Denotes now text second
    → timestamp now text ≡ Some second
unfolding timestamp
timestamp_complete now text second (d, valid, shown, is) = grind (arith, date_time_complete)

pub timestamp_sound : (now : ℕ) (text : List ℕ) (second : ℕ) → timestamp now text ≡ Some second
    → Denotes now text second
unfolding timestamp
timestamp_sound now text second e = go _ refl e
  where
    go : (o : Option DateTime) → date_time now text ≡ o → option_map seconds o ≡ Some second → Denotes now text second
    go None read e = absurd (none-some _ e)
    go (Some d) read e =
        let whole = date_time_sound now text d read in
        (d, whole.0, whole.1, same_Some _ _ e)

pub timestamp_none : (now : ℕ) (text : List ℕ) → timestamp now text ≡ None → (second : ℕ) → ¬ Denotes now text second
timestamp_none now text none second h = none-some _ (sym none ∙ timestamp_complete now text second h)

-- an answer that is `timestamp` is the definition's
pub denotes-timestamp : (now : ℕ) (text : List ℕ) (answer : Option ℕ) → answer ≡ timestamp now text
    → MatchOption answer ((second : ℕ) → ¬ Denotes now text second) (Denotes now text)
denotes-timestamp now text None e = timestamp_none now text (sym e)
denotes-timestamp now text (Some second) e = timestamp_sound now text second (sym e)
