-- Lists of origins, as a caller hands them in.
use Rattle.std.specs.Prelude.{◌≡◌, ◌⊎◌, ℕ, true, false, List, All, Some, None, Result, Ok, Err}
use Rattle.{http_header.specs.FieldValue.IsFieldValue, decide_cors.specs.SentOrigins.unsent_place}
use Rattle.c_parts.specs.{FieldText.field_lines, declared.status.Failure.{Failure, TheVariants.{Refused, Memory}}}
use Rattle.{c_parts.specs.declared.status.Failure.TheVariants.{Absent, TooLarge}, c_decisions.specs.Star.is_any}
use Rattle.c_decisions.specs.Texts.{FailsAt}

-- The place of the first line of the text that no browser sends as an origin. `Absent` only if there is none: browsers
-- send each, or the only line is a star.
abbrev pub FindsUnsent : List ℕ → Result ℕ Failure → Type 0
FindsUnsent text (Ok place) = (is_any (field_lines text) ≡ false) × (unsent_place (field_lines text) ≡ Some place)
FindsUnsent text (Err Absent) =
    All IsFieldValue (field_lines text)
    × ((is_any (field_lines text) ≡ true) ⊎ (unsent_place (field_lines text) ≡ None))
FindsUnsent text (Err Refused) = FailsAt text Refused
FindsUnsent text (Err Memory) = FailsAt text Memory
FindsUnsent text (Err TooLarge) = ⊥
