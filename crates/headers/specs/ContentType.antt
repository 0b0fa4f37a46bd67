-- The header `content-type` (RFC 9110, section 8.3): its first field line, which is text and a media type.
use Rattle.std.specs.Prelude.{◌≡◌, ℕ, true, List, [], ◌∷◌}
use Rattle.headers_syntax.{specs.Lines.Line, specs.Text.is_text}
use Rattle.headers_mime.specs.MediaType.{MediaType, IsMediaType, canonical}

-- the canonical text that the field lines decode to
abbrev pub ReadsType : List Line → List ℕ → Type 0
ReadsType [] text = ⊥
ReadsType (line ∷ lines) text = (is_text line ≡ true) × (m : MediaType) × IsMediaType line m × (text ≡ canonical m)

-- the stored text is the encoding
abbrev pub type_line : List ℕ → List Line
type_line text = text ∷ []
