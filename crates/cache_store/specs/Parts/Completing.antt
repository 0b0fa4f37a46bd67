-- How a cache asks for what a stored part lacks (RFC 9111, section 3.3; RFC 9110, sections 13.1.5 and 14.2).
use Rattle.std.specs.Prelude.{[], ◌+◌, ◌-◌, ◌∷◌, ◌≡◌, codes, IsSomeAnd, List, MatchOption, nat_lt, None, Option, Some}
use Rattle.std.specs.Prelude.{if◌then◌else◌}
use Rattle.headers.specs.{ByteRanges.bytes_from_to, Lines.Line}
use Rattle.headers.specs.{declared.Encoded.Encoded, LineMap.{Field, fields_of, LineMap}}
use Rattle.cache_store.specs.{declared.parts.extent.Extent.Extent, Parts.Extents.strong_tag}

-- What a part lacks of the whole: what stands before it, or else what stands after it. One of both is asked for, since
-- several ranges come as several parts.
abbrev pub lacking : Extent → Option Extent
lacking extent = if nat_lt 0 extent.first then Some (record { first = 0; last = extent.first - 1; len = extent.len })
    else (if nat_lt (extent.last + 1) extent.len then Some
    (record { first = extent.last + 1; last = extent.len - 1; len = extent.len }) else None)

-- the fields of a request for a part of the representation that has this tag
abbrev pub completing_fields : Extent → Line → List Field
completing_fields part tag =
    (codes "range", bytes_from_to part.first (Some part.last) ∷ []) ∷ (codes "if-range", tag ∷ []) ∷ []

-- there are such fields exactly if the message has a strong validator, and they name that
abbrev pub IsCompletedBy : LineMap → Extent → Option (List Encoded) → Type 0
IsCompletedBy message part found = MatchOption found (strong_tag message ≡ None)
    (λ fields. IsSomeAnd (strong_tag message) (λ tag. fields_of fields ≡ completing_fields part tag))
