-- What the result of decoding says about a list of field lines.
use Rattle.std.specs.Prelude.{List, ⊤, Result, Ok, Err}
use Rattle.headers_syntax.{specs.Lines.Line, specs.declared.error.Refused.Refused}
use Rattle.headers_syntax.specs.declared.error.Refused.TheVariants.{Invalid, Memory}

-- the field lines decode to this result: to a value only if they encode it, to `Invalid` only if they encode none
abbrev pub DecodesTo : {V E : Type 0} → (List Line → V → Type 0) → List Line → Result V (Refused E) → Type 0
DecodesTo reads lines (Ok v) = reads lines v
DecodesTo {V} reads lines (Err (Invalid e)) = (v : V) → ¬ (reads lines v)
DecodesTo reads lines (Err (Memory e)) = ⊤
