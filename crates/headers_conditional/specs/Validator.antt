-- The validator in the header `if-range` (RFC 9110, section 13.1.5), and its encoding.
use Rattle.std.specs.Prelude.{◌≡◌, ℕ, ◌<◌, ⊤, Option, Some, None, option_map, if◌then◌else◌}
use denote.Ref.{Bor}
use Rattle.http_header.specs.FieldValue.{FieldValue, plain_value}
use Rattle.headers_syntax.{specs.Date.{date, fixdate}, specs.EntityTag.{is_tag, AreTags, StronglyEqual}}
use Rattle.headers_syntax.specs.Lines.{Line}

-- a header value that is an entity tag, or a time in seconds since 1970
pub data Validator : Type 0 where
  Tag : FieldValue → Validator
  Second : ℕ → Validator

-- the same without the mark sensitive, which is no part of a field line
abbrev pub unmarked : Validator → Validator
unmarked (Tag value) = Tag (plain_value value.bytes)
unmarked (Second secs) = Second secs

-- an entity tag, or else a date
abbrev pub validator : Line → Option Validator
validator line = if is_tag line then Some (Tag (plain_value line)) else option_map Second (date line)

-- a tag is encoded as it is, and a date as IMF-fixdate
abbrev pub validator_line : Validator → Line
validator_line (Tag value) = value.bytes
validator_line (Second secs) = fixdate secs

-- A representation with this tag, if any, and this modification time, if any, has changed. By a date: the time is later
-- or unknown. By a tag: the tag is unknown, or the two aren't strongly equal.
abbrev pub IsModified : Validator → Option (Bor FieldValue) → Option (Bor ℕ) → Type 0
IsModified (Second secs) etag None = ⊤
IsModified (Second secs) etag (Some modified) = secs < modified.now
IsModified (Tag value) None modified = ⊤
IsModified (Tag value) (Some etag) modified = ¬ (AreTags StronglyEqual value.bytes etag.now.bytes)

-- A representation with this tag, if any, and this modification time, if any, is the one of the validator. By a tag:
-- the two are strongly equal. By a date: it is exactly that time.
abbrev pub ValidatorMatches : Validator → Option (Bor FieldValue) → Option (Bor ℕ) → Type 0
ValidatorMatches (Second secs) etag None = ⊥
ValidatorMatches (Second secs) etag (Some modified) = secs ≡ modified.now
ValidatorMatches (Tag value) None modified = ⊥
ValidatorMatches (Tag value) (Some etag) modified = AreTags StronglyEqual value.bytes etag.now.bytes

-- the tag, if the validator is one
abbrev pub named_tag : Validator → Option FieldValue
named_tag (Tag value) = Some value
named_tag (Second secs) = None

-- the date, if the validator is one
abbrev pub named_second : Validator → Option ℕ
named_second (Tag value) = None
named_second (Second secs) = Some secs
