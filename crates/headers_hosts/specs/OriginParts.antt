-- Origins from a URI, and from a text.
use Rattle.std.specs.Prelude.{◌≡◌, List, ℕ, Some, None, codes}
use Rattle.http_header.specs.FieldValue.{IsFieldValue}
use Rattle.http_uri.{specs.declared.uri.Uri.Uri, specs.Grammar.{path_of, query_of}, specs.Uri.uri_scheme}
use Rattle.http_uri.specs.Uri.{uri_authority, uri_data}
use Rattle.headers_hosts.{specs.Origin.IsOriginLine, specs.declared.origin.Origin.Origin}
use Rattle.headers_hosts.specs.declared.origin.OriginOrNull.{OriginOrNull}
use Rattle.headers_hosts.specs.declared.origin.OriginOrNull.TheVariants.{Tuple, Null}

abbrev pub IsUriKind : Uri → OriginOrNull → Type 0
IsUriKind uri (Tuple scheme authority) =
    (uri_scheme uri ≡ Some scheme) × (uri_authority uri ≡ Some authority) × (path_of (uri_data uri) ≡ codes "/") ×
    (query_of (uri_data uri) ≡ None)
IsUriKind uri Null = ⊥

-- scheme and authority of the URI, which has the path `/` or none, and no query
abbrev pub IsUriOrigin : Uri → Origin → Type 0
IsUriOrigin uri origin = IsUriKind uri origin.kind

-- a text that is a header value, and an origin as a line
abbrev pub IsOriginText : List ℕ → Origin → Type 0
IsOriginText text origin = IsFieldValue text × IsOriginLine text origin
