-- The laws of the header `if-range`.
use Rattle.std.specs.Prelude.{◌≡◌, ℕ, Bool, true, false, Option, Some, None, option_map, if◌then◌else◌, refl}
use Rattle.http_header.specs.FieldValue.{FieldValue, plain_value}
use Rattle.headers_syntax.{specs.Date.{date, fixdate}, specs.EntityTag.is_tag, specs.HeaderLaws.{HeaderLaws, SameBy}}
use Rattle.headers_syntax.{specs.HeaderLaws.{ReadsBy, written_by}, specs.Lines.{Line, first_line}}
use Rattle.headers_syntax.{proofs.DateLemmas.date_back, proofs.EntityTagDateLemmas.is_tag-fixdate}
use Rattle.headers_syntax.proofs.ShapeLemmas.{ReadsBackLine, one_line_laws}
use Rattle.headers_conditional.specs.Validator.{Validator, Tag, Second, unmarked, validator, validator_line}
use Rattle.headers_conditional.specs.IfRange.{if_range_grammar}

read_back : (line : Line) (tag : Bool) (d : Option ℕ) (v : Validator) → is_tag line ≡ tag → date line ≡ d
    → (if tag then Some (Tag (plain_value line)) else option_map Second d) ≡ Some v
    → validator (validator_line v) ≡ Some v
read_back line true d (Tag value) is shows e =
    let same : plain_value line ≡ value = cc e in
    rw (← same, is) refl
read_back line true d (Second secs) is shows e = absurd (cc e)
read_back line false (Some secs) (Second m) is shows e =
    let same : secs ≡ m = cc e in
    rw (← same, is_tag-fixdate line secs shows, date_back line secs shows) refl
read_back line false (Some secs) (Tag value) is shows e = absurd (cc e)
read_back line false None v is shows e = absurd (cc e)

validator_back : ReadsBackLine validator validator_line
validator_back line v e = read_back line (is_tag line) (date line) v refl refl e

-- a tag and a date that were built survive a round trip
pub tag_back : (value : FieldValue) → is_tag value.bytes ≡ true → validator value.bytes ≡ Some (unmarked (Tag value))
tag_back value tag = rw tag refl

pub second_back : (secs : ℕ) → date (fixdate secs) ≡ Some secs → validator (fixdate secs) ≡ Some (Second secs)
second_back secs shows = rw (is_tag-fixdate (fixdate secs) secs shows, shows) refl

pub if_range_laws : HeaderLaws (SameBy if_range_grammar) (ReadsBy if_range_grammar) (written_by if_range_grammar)
if_range_laws = one_line_laws unmarked first_line validator validator_line (λ line. refl) validator_back
