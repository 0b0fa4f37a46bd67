-- The lines that a header writes of the value that its lines decode to.
use Rattle.std.specs.Prelude.{◌≡◌, ◌⊎◌, ℕ, ◌||◌, Bool, List, [], ◌∷◌, ◌++◌, flat_map, All, Some, None, Result, Ok, Err}
use Rattle.{std.specs.{Prelude.{MatchBool, bytes_eq, codes}, Global.Vec}, http_header.specs.FieldName.IsFieldName}
use Rattle.{http_header.specs.{FieldValue.{FieldValue, IsFieldValue}, Token.lowercase}, headers.specs.Basic.ReadsBasic}
use Rattle.headers.specs.{Basic.{UserPass, basic_scheme, basic_writes}, Bearer.{ReadsBearer, bearer_scheme}}
use Rattle.headers.specs.{Bearer.bearer_writes, Lines.{Line, lines_of}, Scheme.FirstReads, Typed.HasLine}
use Rattle.{headers_section.specs.CanonicalText.{Block, IsBlock}, c_parts.specs.FieldText.{IsNameOf, field_lines}}
use Rattle.c_parts.specs.declared.status.Failure.{Failure, TheVariants.{Refused, Memory, Absent, TooLarge}}

-- each line, and a byte 10 after it
abbrev pub lines_text : List Line → List ℕ
lines_text lines = flat_map (λ line. line ++ 10 ∷ []) lines

-- the name of a field that has credentials
abbrev pub has_credentials : List ℕ → Bool
has_credentials name = bytes_eq name (codes "authorization") || bytes_eq name (codes "proxy-authorization")

abbrev pub reads_basic : List Line → UserPass → Type 0
reads_basic = FirstReads basic_scheme ReadsBasic

abbrev pub reads_bearer : List Line → FieldValue → Type 0
reads_bearer = FirstReads bearer_scheme ReadsBearer

-- the encoding of the credentials of a scheme that the library knows, or nothing if the first line has none
abbrev pub IsCredentialsBlock : List Line → Block → Type 0
IsCredentialsBlock lines None =
    ((v : UserPass) → ¬ (reads_basic lines v)) × ((v : FieldValue) → ¬ (reads_bearer lines v))
IsCredentialsBlock lines (Some written) =
    ((v : UserPass) × reads_basic lines v × (written ≡ basic_writes v ∷ []))
    ⊎ ((v : FieldValue) × reads_bearer lines v × (written ≡ bearer_writes v ∷ []))

-- the canonical lines of a name, or nothing if its header rejects them; the lines of a name that no header has
-- stay as they came
abbrev pub IsWrittenBlock : List ℕ → List Line → Block → Type 0
IsWrittenBlock name lines block =
    MatchBool (has_credentials name) (IsCredentialsBlock lines block) (IsBlock name lines block)

-- the lines of the text, each of which may be a header value, have this block under the name
pub record HasBlock (name text : List ℕ) (block : Block) : Type 0 where
  pub is_name : IsFieldName name
  pub has_line : HasLine (field_lines text)
  pub values : All IsFieldValue (field_lines text)
  pub block_is : IsWrittenBlock (lowercase name) (field_lines text) block

-- why a name and a text have no block
abbrev pub HasNoBlock : List ℕ → List ℕ → Type 0
HasNoBlock name text = ¬ (IsFieldName name) ⊎ (HasLine (field_lines text) × ¬ (All IsFieldValue (field_lines text)))

-- The lines that are written. `Refused` only if the name is no field name, or a line is no header value, or the header
-- rejects the lines. `Memory` only if the name is copied, or there is a line.
abbrev pub IsWrittenAs : List ℕ → List ℕ → Result (Vec FieldValue) Failure → Type 0
IsWrittenAs name text (Ok lines) = HasBlock name text (Some (lines_of lines.items))
IsWrittenAs name text (Err Refused) = HasNoBlock name text ⊎ HasBlock name text None
IsWrittenAs name text (Err Absent) = IsFieldName name × (field_lines text ≡ [])
IsWrittenAs name text (Err Memory) =
    IsNameOf name (Err Memory) ⊎ (IsFieldName name × HasLine (field_lines text))
IsWrittenAs name text (Err TooLarge) = ⊥
