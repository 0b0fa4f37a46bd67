-- What a handle owns, and what a view of one does.
use Rattle.{std.specs.Prelude.{ℕ, Option, Some, None}, left_right.specs.Parted.{part_owns, part_shares}}
use Rattle.{c_parts.specs.Ownership.handle_owns, c_handles.specs.contracts.held.Held.the_row}
use base.Fml.{Fml, Lft, ftrue}
use denote.{RawPtr.Ptr, Sharing.nothing}

-- what a box at the pointer owns, or nothing if the handle is closed
abbrev pub held_owns : Ptr → Option the_row.Denot → Fml
held_owns = handle_owns the_row

-- Some of the 2 ^ 63 parts of the right to read what is in the box while a lifetime lasts. Whoever has all of them may
-- end it. Nothing if the handle is closed.
abbrev pub loan_owns : Ptr → Option the_row.Denot → ℕ → ℕ → Fml
loan_owns at None life parts = ftrue
loan_owns at (Some value) life parts = part_owns the_row at value life parts

-- what a `&` to a loan has beside its field
abbrev pub loan_shares : Ptr → Option the_row.Denot → ℕ → Lft → Fml
loan_shares at None life = nothing
loan_shares at (Some value) life = part_shares the_row at value life
