-- The request by which what a pass has sent stale is validated, as text.
use Rattle.std.specs.{Prelude.{◌≡◌, ◌⊎◌, ℕ, List, flat_map, Result, Ok, Err}, Global.Vec}
use Rattle.{http_header.specs.{FieldValue.FieldValue, HeaderMap.{Entries, pairs}}, headers.specs.LineMap.lines_at}
use Rattle.{headers_section.specs.CanonicalText.line_text, cache_rules.specs.Fields.IsTooSmallFor}
use Rattle.cache_pass.specs.{Validation.{IsValidationOf, fields_alone}, declared.pass.Pass.Pass}
use Rattle.c_parts.specs.declared.status.Failure.{Failure, TheVariants.{Memory, TooLarge}}
use Rattle.c_pass.specs.Sending.{FieldLine}

-- each field line of a map, after its name
abbrev pub map_text : Entries FieldValue → List ℕ
map_text map = flat_map (λ (field : FieldLine). line_text field.0 field.1.bytes) (pairs map)

-- the text has the fields of that request; there is none without memory, or if they are too many
abbrev pub ShowsValidation : Pass → Result (Vec ℕ) Failure → Type 0
ShowsValidation client (Ok text) =
    (validation : Pass) × IsValidationOf client validation × (text.items ≡ map_text validation.request)
ShowsValidation client (Err failure) =
    (failure ≡ Memory)
    ⊎ ((failure ≡ TooLarge) × IsTooSmallFor client.request (fields_alone (lines_at client.request)))
