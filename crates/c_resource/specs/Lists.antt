-- Lists as texts, with one value a line.
use Rattle.std.specs.Prelude.{◌≡◌, ◌⊎◌, ℕ, ◌<◌, ◌≤◌, Bool, List, [], ◌∷◌, Option, Some, None, Result, Ok, Err, bytes_eq}
use Rattle.{std.specs.{Prelude.{length, slice_get}, Global.Vec, List.list_any}, http_header.specs.FieldValue.FieldValue}
use Rattle.{headers.specs.Lines.Line, c_parts.specs.{FieldText.field_lines, declared.status.Failure.Failure}}
use Rattle.{c_parts.specs.declared.status.Failure.TheVariants.Refused, c_decisions.specs.Texts.AreValuesOf}
use Rattle.c_decisions.specs.Texts.{IsValuesOf}

-- the values are the lines of the text, at most so many; `Refused` only if a line can't be a value, or there are more
abbrev pub IsListOf : ℕ → List ℕ → Result (Vec FieldValue) Failure → Type 0
IsListOf most text (Ok values) = AreValuesOf text values.items × (length (field_lines text) ≤ most)
IsListOf most text (Err failure) =
    IsValuesOf text (Err failure) ⊎ ((failure ≡ Refused) × (most < length (field_lines text)))

-- the line, unless it is empty
abbrev pub filled : Option Line → Option Line
filled None = None
filled (Some []) = None
filled (Some (byte ∷ bytes)) = Some (byte ∷ bytes)

-- the line at a place, unless it is empty
abbrev pub filled_at : List Line → ℕ → Option Line
filled_at lines place = filled (slice_get lines place)

-- a line is this name
abbrev pub is_named : Line → List Line → Bool
is_named name lines = list_any (λ line. bytes_eq line name) lines

-- one value for each place below the count, and P holds for it
pub record IsEachAt {X : Type 0} (P : ℕ → X → Type 0) (count : ℕ) (values : List X) : Type 0 where
  pub count_is : length values ≡ count
  pub each : (place : ℕ) (value : X) → slice_get values place ≡ Some value → P place value
