-- The laws of the header `access-control-request-method`.
use Rattle.std.{specs.Prelude.{◌≡◌, refl}, proofs.Common.{sym, ◌∙◌, ap, subst}}
use Rattle.http_header.specs.Token.{IsToken}
use Rattle.headers_syntax.{specs.Lines.{Line, first_line}, specs.HeaderLaws.HeaderLaws}
use Rattle.headers_hosts.specs.OneLine.{Same, line_laws}
use Rattle.headers_cors.specs.AccessControlRequestMethod.{method_bytes, IsMethodLine, request_method_reads}
use Rattle.headers_cors.specs.AccessControlRequestMethod.{request_method_writes}
use Rattle.headers_cors.specs.declared.access_control_request_method.AccessControlRequestMethod as declared

method_once : (line : Line) (v w : declared.AccessControlRequestMethod) → IsMethodLine line v → IsMethodLine line w
    → v ≡ w
method_once line v w h k =
    ap (λ (bytes : Line). let header : declared.AccessControlRequestMethod = record { method = bytes } in header)
    (h.1 ∙ sym k.1)

method_back : (line : Line) (v : declared.AccessControlRequestMethod) → IsMethodLine line v
    → IsMethodLine (method_bytes v) v
method_back line v h = (subst IsToken (sym h.1) h.0, refl)

pub request_method_laws : HeaderLaws Same request_method_reads request_method_writes
request_method_laws = line_laws first_line IsMethodLine method_bytes (λ line. refl) method_once method_back
