-- The header `access-control-allow-origin` (W3C CORS, section 5.1).
use Rattle.std.specs.Prelude.{◌≡◌, ℕ, List, Option, Some, None, codes}
use Rattle.headers_syntax.specs.Lines.{Line, only_line}
use Rattle.headers_hosts.{specs.OneLine.{ReadsLine, written_line}, specs.Origin.{IsOriginLine, origin_text}}
use Rattle.headers_hosts.{specs.OriginParts.IsOriginText, specs.declared.origin.Origin.Origin}
use Rattle.headers_cors.specs.declared.access_control_allow_origin.AccessControlAllowOrigin.{AccessControlAllowOrigin}
use Rattle.headers_cors.specs.declared.access_control_allow_origin.OriginOrAny.{OriginOrAny}
use Rattle.headers_cors.specs.declared.access_control_allow_origin.OriginOrAny.TheVariants.{One, Any}

abbrev pub IsKindLine : Line → OriginOrAny → Type 0
IsKindLine line (One origin) = IsOriginLine line origin
IsKindLine line Any = line ≡ codes "*"

-- `*`, or an origin
abbrev pub IsAllowedLine : Line → AccessControlAllowOrigin → Type 0
IsAllowedLine line header = IsKindLine line header.kind

abbrev pub kind_text : OriginOrAny → List ℕ
kind_text (One origin) = origin_text origin
kind_text Any = codes "*"

-- the encoding of the header
abbrev pub allowed_text : AccessControlAllowOrigin → List ℕ
allowed_text header = kind_text header.kind

-- the only field line is `*` or an origin
abbrev pub allow_origin_reads : List Line → AccessControlAllowOrigin → Type 0
allow_origin_reads = ReadsLine only_line IsAllowedLine

abbrev pub allow_origin_writes : AccessControlAllowOrigin → List Line
allow_origin_writes = written_line allowed_text

abbrev pub kind_origin : OriginOrAny → Option Origin
kind_origin (One origin) = Some origin
kind_origin Any = None

-- the origin, if not any origin is allowed
abbrev pub allowed_origin : AccessControlAllowOrigin → Option Origin
allowed_origin header = kind_origin header.kind

abbrev pub IsKindText : List ℕ → OriginOrAny → Type 0
IsKindText text (One origin) = IsOriginText text origin
IsKindText text Any = ⊥

-- the text is a header value, and an origin as in a field line; `*` is no origin
abbrev pub IsAllowedText : List ℕ → AccessControlAllowOrigin → Type 0
IsAllowedText text header = IsKindText text header.kind
