-- When to try again, by the first of the header values.
use Rattle.std.proofs.Common.{◌≡◌, ◌∙◌, ℕ, List, [], ◌∷◌, All, Option, Some, None, Ok, ap, arith, option_map, refl}
use Rattle.{std.specs.{Option.option_and_then, List.slice_get}, http_header.specs.FieldValue.{FieldValue, IsFieldValue}}
use Rattle.headers.specs.{HeaderLaws.ReadsBy, Lines.{Line, first_line, lines_of}, RetryAfter.retry_after_grammar}
use Rattle.headers.specs.RetryTime.{RetryTime as Time, retry_time}
use Rattle.{c_parts.specs.FieldText.field_lines, c_typed.specs.Policies.{ShowsRetryTime, retry_shown}}
use Rattle.c_typed.specs.{Shown.FieldShows, declared.policies.RetryTime.RetryTime}

first_is : (values : List FieldValue) (line : FieldValue) → slice_get values 0 ≡ Some line
    → (rest : List FieldValue) × (values ≡ line ∷ rest)
first_is [] line is = let none : None ≡ Some line = is in absurd (cc none)
first_is (value ∷ values) line is = let some : Some value ≡ Some line = is in (values, cc some)

shown_from : (read : Option Time) (time : RetryTime) → Some time ≡ option_map retry_shown read
    → (x : Time) × (read ≡ Some x) × (time ≡ retry_shown x)
shown_from None time is = let none : Some time ≡ None = is in absurd (cc none)
shown_from (Some x) time is = let some : Some time ≡ Some (retry_shown x) = is in (x, refl, cc some)

-- the first value is a time, which is shown
pub retry_shows : (text : List ℕ) (values : List FieldValue) (line : FieldValue) (time : RetryTime)
    → field_lines text ≡ lines_of values → slice_get values 0 ≡ Some line → All IsFieldValue (field_lines text)
    → Some time ≡ option_map retry_shown (retry_time line.bytes)
    → FieldShows (ReadsBy retry_after_grammar) ShowsRetryTime text (Ok time)
retry_shows text values line time same first all is =
    let front = first_is values line first in
    let shown = shown_from (retry_time line.bytes) time is in
    let lines : field_lines text ≡ line.bytes ∷ lines_of front.0 = same ∙ ap lines_of front.1 in (
      shown.0,
      rw lines (omega arith),
      (all, ap (λ (read : List Line). option_and_then retry_time (first_line read)) lines ∙ shown.1),
      shown.2,
    )
