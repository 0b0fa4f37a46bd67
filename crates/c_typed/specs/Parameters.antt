-- Parameters, as C sees them.
use Rattle.std.specs.Prelude.{◌≡◌, ◌==◌, ℕ, ⊤, true, All, List, Option, Some, None, Result, Ok, Err, if◌then◌else◌}
use Rattle.{std.specs.{Global.Vec, List.list_all, Str.IsUtf8}, http_header.specs.Token.is_value_byte}
use Rattle.{rfc_fields.specs.Values.is_token, rfc_lists.specs.{Extended.extended_text, Parameters.parameter_text}}
use Rattle.rfc_lists.specs.declared.parameters.ParameterKind.{ParameterKind, TheVariants.{Extended, Plain, Quoted}}
use Rattle.rfc_lists.specs.declared.parameters.ParameterKind.TheVariants.{Challenge}
use Rattle.c_parts.specs.declared.status.Failure.{Failure, TheVariants.{Refused, Memory, Absent, TooLarge}}
use Rattle.{http_header.specs.FieldValue.IsFieldValue, c_parts.specs.FieldText.field_lines}
use Rattle.{c_decisions.specs.Texts.FailsAt, rfc_lists.specs.Named.place_named}

-- the text that a value means, or `Refused` if it means none
abbrev pub ShowsExtended : List ℕ → Result (Vec ℕ) Failure → Type 0
ShowsExtended value (Ok text) = extended_text value ≡ Some text.items
ShowsExtended value (Err Refused) = extended_text value ≡ None
ShowsExtended value (Err Memory) = ⊤
ShowsExtended value (Err Absent) = ⊥
ShowsExtended value (Err TooLarge) = ⊥

abbrev pub kind_of : ℕ → Option ParameterKind
kind_of kind =
    if kind == 0 then Some Extended
    else (if kind == 1 then Some Plain
    else (if kind == 2 then Some Quoted else (if kind == 3 then Some Challenge else None)))

-- an extended parameter may have any text in UTF-8, another one any bytes of a field
abbrev pub IsText : ParameterKind → List ℕ → Type 0
IsText Extended text = IsUtf8 text
IsText Plain text = list_all is_value_byte text ≡ true
IsText Quoted text = list_all is_value_byte text ≡ true
IsText Challenge text = list_all is_value_byte text ≡ true

abbrev pub IsWritable : ParameterKind → List ℕ → List ℕ → Type 0
IsWritable kind name text = (is_token name ≡ true) × IsText kind text

-- the parameter, or `Refused` if there is none
abbrev pub WritesKind : ParameterKind → List ℕ → List ℕ → Result (Vec ℕ) Failure → Type 0
WritesKind kind name text (Ok written) = IsWritable kind name text × (written.items ≡ parameter_text kind name text)
WritesKind kind name text (Err Refused) = IsWritable kind name text → ⊥
WritesKind kind name text (Err Memory) = IsWritable kind name text
WritesKind kind name text (Err Absent) = ⊥
WritesKind kind name text (Err TooLarge) = ⊥

abbrev pub WritesBy : Option ParameterKind → List ℕ → List ℕ → Result (Vec ℕ) Failure → Type 0
WritesBy (Some kind) name text result = WritesKind kind name text result
WritesBy None name text result = result ≡ Err Refused

abbrev pub WritesParameter : ℕ → List ℕ → List ℕ → Result (Vec ℕ) Failure → Type 0
WritesParameter kind name text result = WritesBy (kind_of kind) name text result

-- the names are the lines of the text, and this is the place of the first that is the name, if there is one
pub record IsPlaced (name names : List ℕ) (place : Option ℕ) : Type 0 where
  pub valid : All IsFieldValue (field_lines names)
  pub placed : place ≡ place_named name (field_lines names)

-- the place, `Absent` if there is none, or why the text gives no lines
abbrev pub FindsParameter : List ℕ → List ℕ → Result ℕ Failure → Type 0
FindsParameter name names (Ok place) = IsPlaced name names (Some place)
FindsParameter name names (Err Absent) = IsPlaced name names None
FindsParameter name names (Err failure) = FailsAt names failure
