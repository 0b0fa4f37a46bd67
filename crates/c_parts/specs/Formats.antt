-- Dates, content ranges and entity tags, as they are written.
use Rattle.std.specs.Prelude.{◌≡◌, ℕ, ◌<◌, ◌≤◌, ⊤, Bool, List, Option, Some, None, Result, Ok, Err, ◌==◌, if◌then◌else◌}
use Rattle.{std.specs.Global.Vec, http_header.specs.{FieldValue.FieldValue, Token.AllPass}}
use Rattle.headers.specs.{ContentBytes.{ContentBytes, content_text}, Date.{IsDated, fixdate}, EntityTag.is_tag_byte}
use Rattle.{headers.specs.EntityTag.tag_text, c_parts.specs.declared.status.Failure.{Failure, TheVariants.Refused}}
use Rattle.c_parts.specs.declared.status.Failure.TheVariants.{Memory, Absent, TooLarge}
use Rattle.c_parts.specs.declared.formats.ContentRangeParts.{ContentRangeParts}

-- the value if P holds, `Refused` only if it doesn't hold, and `Memory` only if it does
abbrev pub Formats : {V : Type 0} → Type 0 → (V → Type 0) → Result V Failure → Type 0
Formats P is (Ok value) = P × is value
Formats P is (Err Refused) = ¬ P
Formats P is (Err Memory) = P
Formats P is (Err Absent) = ⊥
Formats P is (Err TooLarge) = ⊥

-- the date of a second
abbrev pub FormatsDate : ℕ → Result FieldValue Failure → Type 0
FormatsDate second = Formats (IsDated second) (λ (value : FieldValue). value.bytes ≡ fixdate second)

-- the number, if the flag isn't 0
abbrev pub number_if : ℕ → ℕ → Option ℕ
number_if flag number = if flag == 0 then None else Some number

-- the range and the length that are said
abbrev pub range_if : ContentRangeParts → Option (ℕ × ℕ)
range_if parts = if parts.has_range == 0 then None else Some (parts.first, parts.last)

abbrev pub content_of : ContentRangeParts → ContentBytes
content_of parts = record { range = range_if parts; length = number_if parts.has_length parts.length }

-- the last position of a range lies below the length, if that is known
abbrev pub IsBelow : ℕ → Option ℕ → Type 0
IsBelow last None = ⊤
IsBelow last (Some length) = last < length

-- a range has its first position at or before its last, which lies below the length; without a range there is a length
-- (RFC 9110, section 14.4)
abbrev pub IsSaid : Option (ℕ × ℕ) → Option ℕ → Type 0
IsSaid (Some range) length = (range.0 ≤ range.1) × IsBelow range.1 length
IsSaid None (Some length) = ⊤
IsSaid None None = ⊥

abbrev pub IsContent : ContentBytes → Type 0
IsContent content = IsSaid content.range content.length

-- the content range that is said, or none, only if it is no content range
abbrev pub IsContentOf : ContentRangeParts → Option ContentBytes → Type 0
IsContentOf parts (Some content) = IsContent content × (content ≡ content_of parts)
IsContentOf parts None = ¬ (IsContent (content_of parts))

abbrev pub FormatsContentRange : ContentRangeParts → Result FieldValue Failure → Type 0
FormatsContentRange parts =
    Formats (IsContent (content_of parts)) (λ (value : FieldValue). value.bytes ≡ content_text (content_of parts))

-- the tag of an opaque part, each byte of which is allowed there
abbrev pub FormatsTag : Bool → List ℕ → Result (Vec ℕ) Failure → Type 0
FormatsTag is_weak opaque =
    Formats (AllPass is_tag_byte opaque)
    (λ (text : Vec ℕ). text.items ≡ tag_text (record { is_weak = is_weak; opaque = opaque }))
