-- The laws of the header `retry-after`.
use Rattle.std.specs.Prelude.{◌≡◌, ℕ, Option, Some, None, refl}
use Rattle.headers_syntax.{specs.Date.date, specs.Number.number, specs.Lines.{Line, first_line}}
use Rattle.headers_syntax.{specs.HeaderLaws.{HeaderLaws, SameBy, ReadsBy, written_by}, proofs.DateLemmas.date_back}
use Rattle.headers_syntax.{proofs.DateLemmas.number-fixdate, proofs.NumberLemmas.{number-decimal, number-lt}}
use Rattle.headers_syntax.proofs.ShapeLemmas.{ReadsBackLine, one_line_laws}
use Rattle.headers_values.specs.RetryTime.{RetryTime, Delay, Until, number_else_date, retry_time, retry_line}
use Rattle.headers_values.specs.RetryAfter.{retry_after_grammar}

read_back : (line : Line) (n d : Option ℕ) (t : RetryTime) → number line ≡ n → date line ≡ d
    → number_else_date n d ≡ Some t → retry_time (retry_line t) ≡ Some t
read_back line (Some secs) d (Delay m) is_number is_date e =
    let same : secs ≡ m = cc e in
    rw (← same, number-decimal secs (number-lt line secs is_number)) refl
read_back line (Some secs) d (Until m) is_number is_date e = absurd (cc e)
read_back line None (Some secs) (Until m) is_number is_date e =
    let same : secs ≡ m = cc e in
    rw (← same, number-fixdate line secs is_date, date_back line secs is_date) refl
read_back line None (Some secs) (Delay m) is_number is_date e = absurd (cc e)
read_back line None None t is_number is_date e = absurd (cc e)

retry_back : ReadsBackLine retry_time retry_line
retry_back line t e = read_back line (number line) (date line) t refl refl e

pub retry_after_laws : HeaderLaws (SameBy retry_after_grammar) (ReadsBy retry_after_grammar)
    (written_by retry_after_grammar)
retry_after_laws = one_line_laws (λ v. v) first_line retry_time retry_line (λ line. refl) retry_back
