-- Fields that validate nothing.
use Rattle.{std.proofs.Common.{◌≡◌, ℕ, [], refl}, http_header.specs.{FieldValue.FieldValue, HeaderMap.Entries}}
use Rattle.{headers.specs.LineMap.lines_at, cache_policy.specs.Validating.validation_fields}
use Rattle.c_decisions.specs.FieldLines.{fields_text}
