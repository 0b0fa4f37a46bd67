-- The canonical text of a header section.
use Rattle.std.specs.Prelude.{◌≡◌, ℕ, Bool, not, List, [], ◌∷◌, ◌++◌, map, filter, flat_map, bytes_eq, Option, Some}
use Rattle.std.{specs.Prelude.{None, is_none, All, MatchBool}, specs.List.list_any}
use Rattle.headers.specs.Lines.{Line}
use Rattle.headers_section.{specs.KnownHeaders.{KnownHeader, known_headers}, specs.Section.{Field, AreFields, section}}

-- the names of the fields, in order
abbrev pub names : List Field → List (List ℕ)
names fields = map (λ field. field.0) fields

-- the values with a name, in order
abbrev pub lines_under : List Field → List ℕ → List Line
lines_under fields name = map (λ field. field.1.bytes) (filter (λ field. bytes_eq field.0 name) fields)

-- the list without what is equal to an earlier name
abbrev pub first_appearances : List (List ℕ) → List (List ℕ)
first_appearances [] = []
first_appearances (name ∷ rest) = name ∷ filter (λ other. not (bytes_eq other name)) (first_appearances rest)

-- the list has the names of the input's fields, in the order of their first appearance
pub record ListsNames (input : List ℕ) (list : List (List ℕ)) : Type 0 where
  pub fields : List Field
  pub are_fields : AreFields (section input) fields
  pub in_order : list ≡ first_appearances (names fields)

-- the field lines to print for a name, or `None` if the header of this name rejects its lines
abbrev pub Block : Type 0
Block = Option (List Line)

-- the encoding of the value that the lines decode to, or `None` if they encode no value
abbrev pub IsTypedBlock : {V : Type 0} → (List Line → V → Type 0) → (V → List Line) → List Line → Block → Type 0
IsTypedBlock {V} reads writes lines None = (v : V) → ¬ (reads lines v)
IsTypedBlock {V} reads writes lines (Some written) = (v : V) × reads lines v × (written ≡ writes v)

-- The block of a name that has these lines, by the header of the name. The lines of a name that is no known header are
-- unchanged.
abbrev pub IsBlockAmong : List KnownHeader → List ℕ → List Line → Block → Type 0
IsBlockAmong [] name lines block = block ≡ Some lines
IsBlockAmong (header ∷ headers) name lines block =
    MatchBool (bytes_eq name header.name) (IsTypedBlock header.reads header.writes lines block)
    (IsBlockAmong headers name lines block)

abbrev pub IsBlock : List ℕ → List Line → Block → Type 0
IsBlock = IsBlockAmong known_headers

-- the name, a colon, a space, the line and a byte 10
abbrev pub line_text : List ℕ → Line → List ℕ
line_text name line = name ++ 58 ∷ 32 ∷ line ++ 10 ∷ []

-- each line after the name, or an exclamation mark, a space, the name and a byte 10
abbrev pub block_text : List ℕ → Block → List ℕ
block_text name None = 33 ∷ 32 ∷ name ++ 10 ∷ []
block_text name (Some lines) = flat_map (line_text name) lines

-- the text is the block of each name, in this order, if a name has these lines
pub record HasBlocks (lines : List ℕ → List Line) (order : List (List ℕ)) (text : List ℕ) (some_refused : Bool)
    : Type 0 where
  pub blocks : List (List ℕ × Block)
  pub in_order : map (λ block. block.0) blocks ≡ order
  pub each : All (λ block. IsBlock block.0 (lines block.0) block.1) blocks
  pub text_is : text ≡ flat_map (λ block. block_text block.0 block.1) blocks
  pub refused_is : some_refused ≡ list_any (λ block. is_none block.1) blocks

-- the text is the block of each name, in the order of first appearance
abbrev pub IsTextOf : List Field → List ℕ → Bool → Type 0
IsTextOf fields text some_refused = HasBlocks (lines_under fields) (first_appearances (names fields)) text some_refused

-- the lines before the first empty one are fields, and the text is theirs
pub record IsCanonicalText (input text : List ℕ) (some_refused : Bool) : Type 0 where
  pub fields : List Field
  pub are_fields : AreFields (section input) fields
  pub is_text : IsTextOf fields text some_refused
