-- Two entity tags, compared.
use Rattle.std.specs.Prelude.{◌≡◌, ◌⊎◌, ℕ, ◌&&◌, ◌==◌, List, drop, slice_index, Result, Ok, Err, if◌then◌else◌}
use Rattle.headers.specs.{EntityTag.{TagParts, AreTags}, HeaderLaws.ReadsBy, Lines.Line, Shapes.only_tag}
use Rattle.c_parts.specs.{declared.status.Failure.Failure, FieldText.{FieldDecodes, FieldReads}}

-- the only line is this entity tag
abbrev pub reads_tag : List Line → Line → Type 0
reads_tag = ReadsBy (only_tag {V = Line} (λ line. line))

-- what follows `W/`, if the bytes begin so
abbrev pub quoted_part : List ℕ → List ℕ
quoted_part tag = if slice_index tag 0 == 87 && slice_index tag 1 == 47 then drop 2 tag else tag

-- the number is 1 if P holds, and 0 if it doesn't
abbrev pub Tells : Type 0 → ℕ → Type 0
Tells P number = ((number ≡ 1) × P) ⊎ ((number ≡ 0) × ¬ P)

-- Both texts are an entity tag, and the answer says whether R holds of their parts; or one of them is none, and the
-- failure is that of reading it.
abbrev pub Compares : (TagParts → TagParts → Type 0) → List ℕ → List ℕ → Result ℕ Failure → Type 0
Compares R one other (Ok answer) =
    (s : Line) × (t : Line) × FieldReads reads_tag one s × FieldReads reads_tag other t × Tells (AreTags R s t) answer
Compares R one other (Err failure) =
    FieldDecodes reads_tag one (Err failure) ⊎ FieldDecodes reads_tag other (Err failure)
