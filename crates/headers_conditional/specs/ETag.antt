-- Entity tags in texts.
use Rattle.std.specs.Prelude.{◌≡◌, ⊤, List, ℕ, Result, Ok, Err}
use Rattle.http_header.specs.FieldValue.{FieldValue, IsFieldValue, plain_value}
use Rattle.headers_syntax.{specs.EntityTag.IsSomeTag, specs.declared.error.Refused.Refused}
use Rattle.headers_syntax.specs.declared.error.Refused.TheVariants.{Invalid, Memory}

-- the text parses as itself if it is a header value and an entity tag, and is `Invalid` only if it isn't both
abbrev pub ReadsText : {E : Type 0} → List ℕ → Result FieldValue (Refused E) → Type 0
ReadsText text (Ok value) = IsFieldValue text × IsSomeTag text × (value ≡ plain_value text)
ReadsText text (Err (Invalid e)) = ¬ (IsFieldValue text × IsSomeTag text)
ReadsText text (Err (Memory e)) = ⊤
