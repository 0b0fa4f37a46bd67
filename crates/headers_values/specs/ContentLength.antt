-- The header `content-length` (RFC 9110, section 8.6): there is a field line, and each is the length.
use Rattle.std.{specs.Prelude.{◌≡◌, ℕ, ◌<◌, List, [], ◌∷◌, Some, decimal, length}, specs.List.AllByRecursion}
use Rattle.headers_syntax.{specs.Lines.Line, specs.Number.number}
use Rattle.headers_values.specs.declared.content_length.ContentLength.{ContentLength}

-- both are the same number
abbrev pub content_length_same : ContentLength → ContentLength → Type 0
content_length_same v w = v.0 ≡ w.0

-- each field line is text that denotes this number, with or without a plus sign and leading zeros
abbrev pub AllWrite : ℕ → List Line → Type 0
AllWrite n lines = AllByRecursion (λ line. number line ≡ Some n) lines

-- there is a field line, and each denotes the length
abbrev pub content_length_reads : List Line → ContentLength → Type 0
content_length_reads lines v = (0 < length lines) × AllWrite v.0 lines

-- the length in decimal
abbrev pub content_length_writes : ContentLength → List Line
content_length_writes v = decimal v.0 ∷ []
