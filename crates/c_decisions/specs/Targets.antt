-- What a server knows of the target of a request, by what a caller hands in.
use Rattle.std.specs.Prelude.{◌≡◌, ◌⊎◌, ℕ, Bool, true, false, List, [], Option, Some, None, Result, Ok, Err}
use Rattle.{http_header.specs.FieldValue.FieldValue, headers.specs.{Date.IsDated, HeaderLaws.ReadsBy, Lines.Line}}
use Rattle.{headers.specs.Shapes.only_tag, decide_preconditions.specs.declared.resource.TargetState.TargetState}
use Rattle.decide_preconditions.specs.declared.resource.TargetState.TheVariants.{Missing, Current}
use Rattle.c_parts.specs.{FieldText.{FieldDecodes, field_lines}, declared.status.Failure.{Failure, TheVariants.Refused}}
use Rattle.{c_parts.specs.declared.status.Failure.TheVariants.Absent, c_decisions.specs.Numbers.known}
use Rattle.c_decisions.specs.declared.target.TargetFacts.{TargetFacts}

-- the only line is an entity tag, which the value has
abbrev pub reads_etag : List Line → FieldValue → Type 0
reads_etag = ReadsBy (only_tag (λ (value : FieldValue). value.bytes))

-- the entity tag that the lines of a text read, or none if there is no line
abbrev pub IsTagOf : List ℕ → Result (Option FieldValue) Failure → Type 0
IsTagOf text (Ok None) = field_lines text ≡ []
IsTagOf text (Ok (Some tag)) = FieldDecodes reads_etag text (Ok tag)
IsTagOf text (Err Absent) = ⊥
IsTagOf text (Err failure) = FieldDecodes reads_etag text (Err failure)

-- the date of a second, if it is known; one past the year 9999 is rejected
abbrev pub IsDateOf : Bool → ℕ → Result (Option ℕ) Failure → Type 0
IsDateOf is_known second (Ok date) = date ≡ known is_known second
IsDateOf is_known second (Err failure) = (failure ≡ Refused) × (is_known ≡ true) × (¬ (IsDated second))

-- what the target is: nothing, or a representation with this tag and this date
abbrev pub IsResourceOf : TargetFacts → Result TargetState Failure → Type 0
IsResourceOf target (Ok Missing) = target.exists ≡ false
IsResourceOf target (Ok (Current validators)) =
    (target.exists ≡ true)
    × IsTagOf target.etag.now (Ok validators.etag)
    × IsDateOf target.has_last_modified target.last_modified (Ok validators.last_modified)
    × (validators.is_date_strong ≡ target.is_date_strong)
IsResourceOf target (Err failure) =
    (target.exists ≡ true)
    × (IsTagOf target.etag.now (Err failure) ⊎ IsDateOf target.has_last_modified target.last_modified (Err failure))
