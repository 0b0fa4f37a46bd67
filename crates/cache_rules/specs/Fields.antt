-- What is left of fields that can't all be set.
use Rattle.std.specs.Prelude.{◌≡◌, ℕ, List}
use Rattle.{http_header.specs.{FieldValue.FieldValue, HeaderMap.{Entries, IsHeaderMap}}, headers.specs.LineMap.Field}
use Rattle.headers.specs.{LineMap.{fields_of, settings}, declared.Encoded.Encoded}
use Rattle.headers_map.specs.{InsertErrors.AppliesPart, declared.insert.InsertError.{InsertError, TheVariants.Full}}

-- some of the fields are set, the next one can't be for this cause, and none after it was begun
abbrev pub SetsPart : Entries FieldValue → Entries FieldValue → List Encoded → InsertError → Type 0
SetsPart old new fields cause =
    (done : ℕ) × AppliesPart old new (settings fields) (record { done = done; cause = cause })

-- The map is too small for these fields: some of them are set, and then it has no room for the next one. What is left
-- is a map: no name stands twice, and each has a value. So its names are counted as a map counts them.
pub record IsTooSmallFor (map : Entries FieldValue) (fields : List Field) : Type 0 where
  pub encoded : List Encoded
  pub encodes : fields_of encoded ≡ fields
  pub left : Entries FieldValue
  pub valid : IsHeaderMap left
  pub part : SetsPart map left encoded Full
