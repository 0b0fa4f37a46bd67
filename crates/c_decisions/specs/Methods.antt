-- Methods, as a caller hands them in.
use Rattle.std.specs.Prelude.{◌≡◌, ℕ, ◌<◌, List, length, Result, Ok, Err}
use Rattle.{http_header.specs.Token.IsToken, c_parts.specs.declared.status.Failure.{Failure, TheVariants.Refused}}
use Rattle.c_parts.specs.declared.status.Failure.TheVariants.{Memory, Absent, TooLarge}

-- how many bytes of a method lie in the method itself: a longer one is copied to the heap
abbrev pub inline_room : ℕ
inline_room = 15

-- The method, if the bytes are one. `Refused` only if they are no token, and `Memory` only if they are a token that is
-- copied to the heap.
abbrev pub IsMethodOf : List ℕ → Result (List ℕ) Failure → Type 0
IsMethodOf bytes (Ok method) = IsToken bytes × (method ≡ bytes)
IsMethodOf bytes (Err Refused) = ¬ (IsToken bytes)
IsMethodOf bytes (Err Memory) = IsToken bytes × (inline_room < length bytes)
IsMethodOf bytes (Err Absent) = ⊥
IsMethodOf bytes (Err TooLarge) = ⊥
