-- Field lines with credentials: a scheme, a space, and the credentials (RFC 9110, section 11.4).
use Rattle.std.specs.Prelude.{◌≡◌, ℕ, ◌<◌, List, [], ◌∷◌, length, take, slice_index, Some}
use Rattle.http_header.specs.Token.{space}
use Rattle.headers_syntax.{specs.AsciiCase.SameButForCase, specs.Lines.{Line, first_line}}

-- the field line begins with the scheme, in any case, and a space
pub record HasScheme (scheme : List ℕ) (line : Line) : Type 0 where
  pub longer : length scheme < length line
  pub spaced : slice_index line (length scheme) ≡ space
  pub named : SameButForCase (take (length scheme) line) scheme

module _ {V : Type 0} (scheme : List ℕ) (reads : Line → V → Type 0) where
  -- the first field line has the scheme, and the credentials decode
  pub record FirstReads (lines : List Line) (v : V) : Type 0 where
    pub line : Line
    pub first : first_line lines ≡ Some line
    pub named : HasScheme scheme line
    pub read : reads line v

  -- the encoding of the credentials decodes to them
  abbrev pub IsReadBack : (V → Line) → V → Type 0
  IsReadBack writes v = FirstReads (writes v ∷ []) v
