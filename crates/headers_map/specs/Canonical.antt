-- The result of `canonical`.
use Rattle.std.specs.Prelude.{◌≡◌, ℕ, List, [], Option, Some, None, Result, Ok, Err}
use Rattle.headers_syntax.{specs.Lines.{Line, lines_of}, specs.declared.error.Refused.Refused}
use Rattle.headers_syntax.specs.declared.error.Refused.TheVariants.{Invalid, Memory}
use Rattle.headers_map.{specs.Typed.HasLine, specs.declared.encoded.Encoded.Encoded}

-- `Ok(None)` exactly if there is no line; else the name and the encoding of the value that the lines decode to
abbrev pub IsCanonicalRead : {V E : Type 0} → List ℕ → (List Line → V → Type 0) → (V → List Line) → List Line
    → Result (Option Encoded) (Refused E) → Type 0
IsCanonicalRead name reads writes lines (Ok None) = lines ≡ []
IsCanonicalRead {V} name reads writes lines (Ok (Some e)) =
    HasLine lines × (e.name ≡ name) × ((v : V) × reads lines v × (lines_of e.lines.items ≡ writes v))
IsCanonicalRead {V} name reads writes lines (Err (Invalid e)) = HasLine lines × ((v : V) → ¬ (reads lines v))
IsCanonicalRead name reads writes lines (Err (Memory e)) = HasLine lines
