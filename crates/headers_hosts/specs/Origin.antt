-- The header `origin` (RFC 6454, section 7).
use Rattle.std.specs.Prelude.{◌≡◌, ℕ, Bool, true, false, List, [], ◌++◌, Option, Some, None, codes, decimal}
use Rattle.http_uri.specs.Grammar.{IsUriText, path_of, query_of, authority_host}
use Rattle.headers_syntax.specs.Lines.{Line, only_line}
use Rattle.headers_hosts.{specs.OneLine.{ReadsLine, written_line}, specs.declared.origin.Origin.Origin}
use Rattle.headers_hosts.specs.declared.origin.OriginOrNull.{OriginOrNull}
use Rattle.headers_hosts.specs.declared.origin.OriginOrNull.TheVariants.{Tuple, Null}

-- a URI of this scheme and this authority, with the path `/` or none, and no query; a fragment may follow
abbrev pub IsOriginUri : List ℕ → List ℕ → List ℕ → Type 0
IsOriginUri text scheme authority =
    (kept : List ℕ) × IsUriText text (Some scheme) (Some authority) kept × (path_of kept ≡ codes "/") ×
    (query_of kept ≡ None)

-- the parts of an origin in a field line
abbrev pub IsKindLine : Line → OriginOrNull → Type 0
IsKindLine line (Tuple scheme authority) = IsOriginUri line scheme authority
IsKindLine line Null = line ≡ codes "null"

-- `null`, or a URI with this scheme and this authority, which the header stores
abbrev pub IsOriginLine : Line → Origin → Type 0
IsOriginLine line origin = IsKindLine line origin.kind

-- scheme, `://` and authority
abbrev pub tuple_text : List ℕ → List ℕ → List ℕ
tuple_text scheme authority = scheme ++ codes "://" ++ authority

abbrev pub kind_text : OriginOrNull → List ℕ
kind_text (Tuple scheme authority) = tuple_text scheme authority
kind_text Null = codes "null"

-- the encoding of an origin
abbrev pub origin_text : Origin → List ℕ
origin_text origin = kind_text origin.kind

-- the only field line is an origin
abbrev pub origin_reads : List Line → Origin → Type 0
origin_reads = ReadsLine only_line IsOriginLine

abbrev pub origin_writes : Origin → List Line
origin_writes = written_line origin_text

abbrev pub kind_is_null : OriginOrNull → Bool
kind_is_null (Tuple scheme authority) = false
kind_is_null Null = true

abbrev pub kind_scheme : OriginOrNull → List ℕ
kind_scheme (Tuple scheme authority) = scheme
kind_scheme Null = []

abbrev pub kind_authority : OriginOrNull → Option (List ℕ)
kind_authority (Tuple scheme authority) = Some authority
kind_authority Null = None

abbrev pub kind_host : OriginOrNull → List ℕ
kind_host (Tuple scheme authority) = authority_host authority
kind_host Null = []

-- whether it is `null`; its scheme and its host, which are empty for `null`; its authority
abbrev pub origin_is_null : Origin → Bool
origin_is_null origin = kind_is_null origin.kind

abbrev pub origin_scheme : Origin → List ℕ
origin_scheme origin = kind_scheme origin.kind

abbrev pub origin_host : Origin → List ℕ
origin_host origin = kind_host origin.kind

abbrev pub origin_authority : Origin → Option (List ℕ)
origin_authority origin = kind_authority origin.kind

-- the scheme, `://`, the host and, if there is a port, a colon and the port
abbrev pub parts_text : List ℕ → List ℕ → Option ℕ → List ℕ
parts_text scheme host None = tuple_text scheme host
parts_text scheme host (Some port) = tuple_text scheme host ++ codes ":" ++ decimal port
