-- The options of a connection (RFC 9110, section 7.6.1).
use Rattle.std.specs.Prelude.{ℕ, List, Any}
use Rattle.headers_syntax.specs.AsciiCase.{SameButForCase}

-- some item is the option, ignoring the case of ASCII letters
abbrev pub HasOption : List (List ℕ) → List ℕ → Type 0
HasOption items option = Any (λ item. SameButForCase item option) items
