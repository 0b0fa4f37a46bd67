-- What is sent of a stored response, by how it answers the client's own conditions and ranges (RFC 9111, section
-- 4.3.2).
use Rattle.std.specs.Prelude.{ℕ, ◌+◌, ◌-◌, ◌++◌, Bool, true, false, not, List, [], ◌∷◌, length, filter, flat_map}
use Rattle.std.specs.Prelude.{bytes_eq, codes, decimal, min, ◌||◌, ◌&&◌}
use Rattle.{http_header.specs.{FieldValue.FieldValue, HeaderMap.{Entries, pairs}}, headers.specs.LineMap.Field}
use Rattle.headers_ranges.specs.ContentBytes.{ContentBytes, content_text}
use Rattle.{headers_section.specs.CanonicalText.line_text, decide_preconditions.specs.Fields.{no_range, range_of}}
use Rattle.decide_preconditions.specs.declared.part.Part.{Part}
use Rattle.cache_rules.specs.declared.conditions.StoredAnswer.{StoredAnswer}
use Rattle.cache_rules.specs.declared.conditions.StoredAnswer.TheVariants as answers
use Rattle.{cache_rules.specs.declared.stored.StoredResponse.StoredResponse, cache_store.specs.Lookups.age_of_stored}
use Rattle.c_decisions.specs.FieldLines.{fields_text}

-- a 304 says nothing of the content (RFC 9110, section 15.4.5)
abbrev pub is_content : List ℕ → Bool
is_content name =
    bytes_eq name (codes "content-encoding") || (bytes_eq name (codes "content-length")
    || (bytes_eq name (codes "content-range") || bytes_eq name (codes "content-type")))

-- a part has these fields of its own, or none: a digest is that of the whole (RFC 9110, section 15.3.7)
abbrev pub is_partial : List ℕ → Bool
is_partial name =
    bytes_eq name (codes "content-length") || (bytes_eq name (codes "content-range")
    || (bytes_eq name (codes "content-digest") || bytes_eq name (codes "content-md5")))

-- the stored field lines with the name are sent; Age is another one
abbrev pub is_sent : StoredAnswer → List ℕ → Bool
is_sent answers.Whole name = not (bytes_eq name (codes "age"))
is_sent (answers.Part part) name = not (bytes_eq name (codes "age")) && not (is_partial name)
is_sent answers.NotModified name = not (bytes_eq name (codes "age")) && not (is_content name)
is_sent answers.Unsatisfiable name = bytes_eq name (codes "date")
is_sent answers.Forward name = not (bytes_eq name (codes "age"))

-- a field line with its name
abbrev pub FieldLine : Type 0
FieldLine = List ℕ × FieldValue

-- the stored field lines that are sent, each after its name
abbrev pub lines_kept : StoredAnswer → Entries FieldValue → List ℕ
lines_kept answer map = flat_map (λ (field : FieldLine). line_text field.0 field.1.bytes)
    (filter (λ (field : FieldLine). is_sent answer field.0) (pairs map))

-- how many bytes a part has
abbrev pub size_of : Part → ℕ
size_of part = min (part.last - part.first + 1) 18_446_744_073_709_551_615

abbrev pub range_field : ContentBytes → Field
range_field range = (codes "content-range", content_text range ∷ [])

abbrev pub length_field : ℕ → Field
length_field count = (codes "content-length", decimal count ∷ [])

module _ (stored : StoredResponse) where
  -- the fields that are sent beside them (RFC 9111, section 5.1; RFC 9110, sections 14.4 and 15.5.17)
  abbrev pub fields_added : StoredAnswer → ℕ → List Field
  fields_added answers.Whole now = age_of_stored stored now ∷ []
  fields_added (answers.Part part) now =
      age_of_stored stored now ∷ range_field (range_of part (length stored.content))
      ∷ length_field (size_of part) ∷ []
  fields_added answers.NotModified now = age_of_stored stored now ∷ []
  fields_added answers.Unsatisfiable now =
      range_field (no_range (length stored.content)) ∷ length_field 0 ∷ []
  fields_added answers.Forward now = age_of_stored stored now ∷ []

  -- the field lines that are sent, at a present
  abbrev pub text_sent : StoredAnswer → ℕ → List ℕ
  text_sent answer now = lines_kept answer stored.response ++ fields_text (fields_added answer now)

  -- the status that is sent
  abbrev pub status_sent : StoredAnswer → ℕ
  status_sent answers.Whole = stored.status
  status_sent (answers.Part part) = 206
  status_sent answers.NotModified = 304
  status_sent answers.Unsatisfiable = 416
  status_sent answers.Forward = stored.status

  -- the first position of the content that is sent, and how many bytes are sent: none to HEAD
  abbrev pub part_sent : StoredAnswer → Bool → ℕ × ℕ
  part_sent answers.Whole false = (0, length stored.content)
  part_sent (answers.Part part) false = (part.first, size_of part)
  part_sent answers.NotModified false = (0, 0)
  part_sent answers.Unsatisfiable false = (0, 0)
  part_sent answers.Forward false = (0, length stored.content)
  part_sent answer true = (0, 0)
