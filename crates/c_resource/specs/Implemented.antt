-- The methods that a server implements, by what a caller hands in (RFC 9110, section 9.1).
use Rattle.std.specs.{Prelude.{◌≡◌, ◌⊎◌, ℕ, Bool, true, false, List, [], ◌∷◌, All, Result, Ok, Err, codes}, Global.Vec}
use Rattle.{http_header.specs.Token.IsToken, headers.specs.{Lines.Line, Typed.HasLine}}
use Rattle.c_parts.specs.{FieldText.field_lines, declared.status.Failure.{Failure, TheVariants.{Refused, Memory}}}
use Rattle.{c_parts.specs.declared.status.Failure.TheVariants.{Absent, TooLarge}, c_decisions.specs.Texts.IsValuesOf}

-- the methods are the lines; `Refused` only if a line is no token, and `Memory` only if there is a line
abbrev pub AreMethods : List Line → Result (Vec Line) Failure → Type 0
AreMethods lines (Ok methods) = All IsToken lines × (methods.items ≡ lines)
AreMethods lines (Err Refused) = ¬ (All IsToken lines)
AreMethods lines (Err Memory) = HasLine lines
AreMethods lines (Err Absent) = ⊥
AreMethods lines (Err TooLarge) = ⊥

-- the failure is that of reading a text with a method a line
abbrev pub FailsAtMethods : List ℕ → Failure → Type 0
FailsAtMethods text failure = IsValuesOf text (Err failure) ⊎ AreMethods (field_lines text) (Err failure)

-- those of section 9.3, and PATCH (RFC 5789), beside GET and HEAD
abbrev pub usual_methods : List Line
usual_methods =
    codes "POST" ∷ codes "PUT" ∷ codes "DELETE" ∷ codes "CONNECT" ∷ codes "OPTIONS" ∷ codes "TRACE"
    ∷ codes "PATCH" ∷ []

abbrev pub AreUsual : Result (Vec Line) Failure → Type 0
AreUsual (Ok methods) = methods.items ≡ usual_methods
AreUsual (Err failure) = failure ≡ Memory

-- the methods that are said, one a line, or else the usual ones
abbrev pub AreImplemented : Bool → List ℕ → Result (Vec Line) Failure → Type 0
AreImplemented true text (Ok methods) = AreMethods (field_lines text) (Ok methods)
AreImplemented true text (Err failure) = FailsAtMethods text failure
AreImplemented false text answer = AreUsual answer
