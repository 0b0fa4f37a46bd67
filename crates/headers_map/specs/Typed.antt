-- The result of a typed read of a map, by the lines with the header's field name.
use Rattle.std.specs.Prelude.{◌≡◌, ◌<◌, ◌⊎◌, List, [], length, Option, Some, None, Result, Ok, Err}
use Rattle.headers_syntax.{specs.Lines.Line, specs.declared.error.Refused.Refused}
use Rattle.headers_syntax.specs.declared.error.Refused.TheVariants.{Invalid, Memory}

-- there is a line
abbrev pub HasLine : List Line → Type 0
HasLine lines = 0 < length lines

-- `Ok(None)` exactly if there is no line; a value only if the lines encode it; `Invalid` only if they encode none
abbrev pub IsTypedRead : {V E : Type 0} → (List Line → V → Type 0) → List Line → Result (Option V) (Refused E) → Type 0
IsTypedRead reads lines (Ok None) = lines ≡ []
IsTypedRead reads lines (Ok (Some v)) = HasLine lines × reads lines v
IsTypedRead {V} reads lines (Err (Invalid e)) = HasLine lines × ((v : V) → ¬ (reads lines v))
IsTypedRead reads lines (Err (Memory e)) = HasLine lines

-- there is no line, or the lines encode no value
abbrev pub ReadsNothing : {V : Type 0} → (List Line → V → Type 0) → List Line → Type 0
ReadsNothing {V} reads lines = (lines ≡ []) ⊎ ((v : V) → ¬ (reads lines v))
