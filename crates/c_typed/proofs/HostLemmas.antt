-- The only field line of a header.
use Rattle.std.{proofs.Common.{◌≡◌, ℕ, List, [], ◌∷◌, Some}, specs.Prelude.slice_get}
use Rattle.{http_header.specs.FieldValue.FieldValue, headers.specs.Lines.lines_of}

pub only_text : (values : List FieldValue) (text : List ℕ) (value : FieldValue) → lines_of values ≡ text ∷ []
    → slice_get values 0 ≡ Some value → value.bytes ≡ text
only_text [] text value is first = absurd (cc is)
only_text (own ∷ values) text value is first = cc (is, first)
