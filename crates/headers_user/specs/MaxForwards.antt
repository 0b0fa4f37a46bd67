-- The header `max-forwards` (RFC 9110, section 7.6.2): the only field line is a number of hops.
use Rattle.std.specs.Prelude.{ℕ, List, [], ◌∷◌, Option, Some, None, decimal}
use Rattle.headers.{specs.Lines.Line, specs.HeaderLaws.ReadsBy, specs.Shapes.only_number}

-- the only field line denotes this many hops; no lines decode to the value without a limit
abbrev pub max_forwards_reads : List Line → Option ℕ → Type 0
max_forwards_reads lines None = ⊥
max_forwards_reads lines (Some hops) = ReadsBy (only_number (λ n. n)) lines hops

-- the number in decimal, or no line
abbrev pub max_forwards_writes : Option ℕ → List Line
max_forwards_writes None = []
max_forwards_writes (Some hops) = decimal hops ∷ []
