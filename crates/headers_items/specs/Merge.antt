-- The field lines of a field, joined to one value.
use Rattle.std.specs.Prelude.{ℕ, List, [], ◌∷◌, ◌++◌, Some}
use Rattle.headers_syntax.{specs.Lines.Line, specs.HeaderLaws.Grammar}

-- the field lines, joined by the separator and one space
abbrev pub merge : ℕ → List (List ℕ) → List ℕ
merge sep [] = []
merge sep (x ∷ []) = x
merge sep (x ∷ y ∷ ys) = x ++ (sep ∷ 32 ∷ merge sep (y ∷ ys))

-- the header stores the field lines joined by a separator and a space, and encodes to that value; none are rejected
abbrev pub merged : {V : Type 0} → ℕ → (V → Line) → Grammar V Line
merged separator kept =
    record {
      kept = kept;
      value_of = λ lines. Some (merge separator lines);
      lines_of_value = λ line. line ∷ [];
    }
