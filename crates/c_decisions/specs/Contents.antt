-- What a response carries of a representation, by what a caller hands in.
use Rattle.std.specs.Prelude.{◌≡◌, ℕ, Bool, true, false, List, Option, Some, None, Result, Ok, Err, if◌then◌else◌}
use Rattle.{http_header.specs.FieldValue.FieldValue, decide_preconditions.specs.Boundaries.is_boundary}
use Rattle.decide_preconditions.specs.{Boundaries.multipart_type, Limits.usual_limits, declared.content.Content.Content}
use Rattle.{decide_preconditions.specs.declared.limits.RangeLimits.RangeLimits, c_decisions.specs.Numbers.known}
use Rattle.c_decisions.specs.{Texts.IsOptionalValue, declared.content.ContentParts.ContentParts}
use Rattle.c_parts.specs.declared.status.Failure.{Failure, TheVariants.{Refused, Memory, Absent, TooLarge}}

-- the usual limits, if ranges are sent
abbrev pub limits_of : Bool → Option RangeLimits
limits_of sends_ranges = if sends_ranges then Some usual_limits else None

-- the content that is said, or the failure of reading its media type
abbrev pub IsContentOf : ContentParts → Result Content Failure → Type 0
IsContentOf parts (Ok content) =
    (content.len ≡ known parts.has_length parts.length)
    × IsOptionalValue parts.media_type.now (Ok content.media_type)
    × (content.ranges ≡ limits_of parts.sends_ranges)
IsContentOf parts (Err failure) = IsOptionalValue parts.media_type.now (Err failure)

-- the type of several parts with this boundary; `Refused` only if the text is none
abbrev pub IsBoundaryOf : List ℕ → Result FieldValue Failure → Type 0
IsBoundaryOf text (Ok multipart) = (is_boundary text ≡ true) × (multipart.bytes ≡ multipart_type text)
IsBoundaryOf text (Err Refused) = is_boundary text ≡ false
IsBoundaryOf text (Err Memory) = is_boundary text ≡ true
IsBoundaryOf text (Err Absent) = ⊥
IsBoundaryOf text (Err TooLarge) = ⊥
