-- What `forward` does to a map (RFC 9110, sections 7.6.2 and 11.7.2).
use Rattle.std.specs.Prelude.{◌≡◌, ℕ, ◌+◌, List, [], ◌∷◌, Option, Some, None, codes}
use Rattle.headers.{specs.LineMap.{LineMap, run}, specs.Lines.{Line, lines_of}, specs.Typed.HasLine}
use Rattle.headers.{specs.declared.Encoded.Encoded, specs.declared.Step.Step, specs.declared.Step.TheVariants.Put}
use Rattle.headers.specs.declared.Step.TheVariants.{Remove}
use Rattle.headers_user.specs.MaxForwards.{max_forwards_reads, max_forwards_writes}
use Rattle.headers_user.specs.declared.forwarding.Forwarded.{Forwarded}
use Rattle.headers_user.specs.declared.forwarding.Forwarded.TheVariants.{Stop, Passed, Unlimited}

-- the lines of the header `max-forwards`
abbrev pub hop_lines : LineMap → List Line
hop_lines map = map (codes "max-forwards")

-- there are lines, and they encode no number of hops
abbrev pub HasBadHops : LineMap → Type 0
HasBadHops map = HasLine (hop_lines map) × ((hops : Option ℕ) → ¬ (max_forwards_reads (hop_lines map) hops))

-- no line, or a number of hops
abbrev pub HasHops : LineMap → Option ℕ → Type 0
HasHops map None = hop_lines map ≡ []
HasHops map (Some hops) = max_forwards_reads (hop_lines map) (Some hops)

-- each name has the lines that it had
abbrev pub SameLines : LineMap → LineMap → Type 0
SameLines old new = (name : List ℕ) → new name ≡ old name

-- the new map is the old one after the steps
abbrev pub Runs : LineMap → LineMap → List Step → Type 0
Runs old new steps = (name : List ℕ) → new name ≡ run old steps name

abbrev pub without_credentials : Step
without_credentials = Remove (codes "proxy-authorization")

-- the hops that are left are put for the field, and the credentials for this proxy are removed
pub record RunsPass (old new : LineMap) (left : ℕ) : Type 0 where
  pub header : Encoded
  pub named : header.name ≡ codes "max-forwards"
  pub written : lines_of header.lines.items ≡ max_forwards_writes (Some left)
  pub runs : Runs old new (Put header ∷ without_credentials ∷ [])

abbrev pub IsForwarded : LineMap → LineMap → Forwarded → Type 0
IsForwarded old new Stop = HasHops old (Some 0) × SameLines old new
IsForwarded old new (Passed left) = HasHops old (Some (left + 1)) × RunsPass old new left
IsForwarded old new Unlimited = HasHops old None × Runs old new (without_credentials ∷ [])
