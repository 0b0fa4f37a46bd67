-- Flags, as C sees them.
use Rattle.std.specs.Prelude.{ℕ, Bool, if◌then◌else◌}

-- 1 if it is set, else 0
abbrev pub flag_of : Bool → ℕ
flag_of is_set = if is_set then 1 else 0
