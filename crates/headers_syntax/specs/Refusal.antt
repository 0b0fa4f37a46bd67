-- Which of its two errors a call returns, and what the error prints.
use Rattle.std.specs.Prelude.{ℕ, List, Option, Some, codes, ⊤, Result, Ok, Err}
use Rattle.headers_syntax.specs.declared.error.Refused.{Refused}
use Rattle.headers_syntax.specs.declared.error.Refused.TheVariants.{Invalid, Memory}

-- the result isn't `Memory`, so no allocation failed
abbrev pub NeverMemory : {V E : Type 0} → Result V (Refused E) → Type 0
NeverMemory (Ok v) = ⊤
NeverMemory (Err (Invalid e)) = ⊤
NeverMemory (Err (Memory e)) = ⊥

-- the result is `Invalid`: the input encodes no value
abbrev pub IsInvalid : {V E : Type 0} → Result V (Refused E) → Type 0
IsInvalid (Ok v) = ⊥
IsInvalid (Err (Invalid e)) = ⊤
IsInvalid (Err (Memory e)) = ⊥

-- what the error prints: the text of the inner error, or that memory allocation failed
abbrev pub refusal_output : {E : Type 0} → (E → Option (List ℕ)) → Refused E → Option (List ℕ)
refusal_output output (Invalid e) = output e
refusal_output output (Memory e) = Some (codes "memory allocation failed")
