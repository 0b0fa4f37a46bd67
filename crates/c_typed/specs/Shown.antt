-- What a call shows of the value that field lines decode to.
use Rattle.std.specs.Prelude.{◌≡◌, ◌⊎◌, ℕ, Bool, true, false, List, [], Result, Ok, Err, ⊤}
use Rattle.{headers.specs.{Lines.Line, Typed.HasLine}, c_parts.specs.FieldText.{FieldDecodes, FieldReads, field_lines}}
use Rattle.c_parts.specs.declared.status.Failure.{Failure, TheVariants.{Refused, Memory, Absent, TooLarge}}
use Rattle.c_decisions.specs.Texts.{FailsAt}

-- The lines of the text decode to a value, and this is what a call shows of it. The failures are those of decoding:
-- `Refused` only if there are lines and they decode to nothing, `Absent` only if there is no line, `Memory` only if
-- there are lines.
abbrev pub FieldShows : {H V : Type 0} → (List Line → H → Type 0) → (H → V → Type 0) → List ℕ → Result V Failure
    → Type 0
FieldShows {H} reads Shows text (Ok shown) =
    (value : H) × HasLine (field_lines text) × FieldReads reads text value × Shows value shown
FieldShows {H} reads Shows text (Err failure) = FieldDecodes {V = H} reads text (Err failure)

-- The same of a header of which only some values are shown: `Refused` also if the lines decode to another one.
abbrev pub FieldShowsIf : {H V : Type 0} → (H → Bool) → (List Line → H → Type 0) → (H → V → Type 0) → List ℕ
    → Result V Failure → Type 0
FieldShowsIf {H} is_shown reads Shows text (Ok shown) =
    (value : H) × HasLine (field_lines text) × FieldReads reads text value × (is_shown value ≡ true) × Shows value shown
FieldShowsIf {H} is_shown reads Shows text (Err Refused) =
    FieldDecodes {V = H} reads text (Err Refused)
    ⊎ ((value : H) × HasLine (field_lines text) × FieldReads reads text value × (is_shown value ≡ false))
FieldShowsIf {H} is_shown reads Shows text (Err failure) = FieldDecodes {V = H} reads text (Err failure)

-- what is shown of one value, which is only if it may be
abbrev pub ShowsIf : {V : Type 0} → Bool → (V → Type 0) → Result V Failure → Type 0
ShowsIf is_shown Shows (Ok shown) = (is_shown ≡ true) × Shows shown
ShowsIf is_shown Shows (Err Refused) = is_shown ≡ false
ShowsIf is_shown Shows (Err Memory) = ⊤
ShowsIf is_shown Shows (Err Absent) = ⊥
ShowsIf is_shown Shows (Err TooLarge) = ⊥

-- What a call shows of the lines of the text. `Refused` only if one can't be a field value, `Absent` only if there is
-- no line, and `Memory` only if there are lines.
abbrev pub LinesShow : {V : Type 0} → (List Line → V → Type 0) → List ℕ → Result V Failure → Type 0
LinesShow Shows text (Ok shown) = HasLine (field_lines text) × FieldReads Shows text shown
LinesShow Shows text (Err Absent) = field_lines text ≡ []
LinesShow Shows text (Err failure) = FailsAt text failure
