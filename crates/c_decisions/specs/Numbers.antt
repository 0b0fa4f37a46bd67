-- Numbers that a caller knows or not.
use Rattle.std.specs.Prelude.{ℕ, Bool, Option, Some, None, if◌then◌else◌}

-- the number, if it is known
abbrev pub known : Bool → ℕ → Option ℕ
known is_known number = if is_known then Some number else None
