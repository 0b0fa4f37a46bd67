-- Which of a server's offers a request is served, by what a caller hands in.
use Rattle.std.specs.Prelude.{◌⊎◌, ℕ, List, Option, Some, None, Result, Ok, Err}
use Rattle.{http_header.specs.FieldValue.FieldValue, headers.specs.Lines.Line, c_parts.specs.FieldText.field_lines}
use Rattle.{c_parts.specs.declared.status.Failure.{Failure, TheVariants.Absent}, c_decisions.specs.Texts.AreValuesOf}
use Rattle.c_decisions.specs.Texts.{FailsAt}

-- the place that a call gives, if there is one
abbrev pub given : Option ℕ → Result ℕ Failure
given (Some place) = Ok place
given None = Err Absent

-- the lines are those of the field, the values are the offers, and this is the choice among them
pub record IsChosen (P : List Line → List FieldValue → Option ℕ → Type 0) (lines offers : List ℕ) (choice : Option ℕ)
    : Type 0 where
  pub field : List FieldValue
  pub is_field : AreValuesOf lines field
  pub values : List FieldValue
  pub are_offers : AreValuesOf offers values
  pub chosen : P (field_lines lines) values choice

-- the answer is the place of the choice, `Absent` if nothing is chosen, or the failure of reading what was handed in
abbrev pub Finds : (List Line → List FieldValue → Option ℕ → Type 0) → (lines offers : List ℕ) → Result ℕ Failure
    → Type 0
Finds P lines offers (Ok place) = IsChosen P lines offers (Some place)
Finds P lines offers (Err Absent) = IsChosen P lines offers None
Finds P lines offers (Err failure) = FailsAt lines failure ⊎ FailsAt offers failure
