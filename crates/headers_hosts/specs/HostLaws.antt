-- The laws of the header `host`.
use Rattle.std.{specs.Prelude.{◌≡◌, ◌≤◌, ◌↔◌, length, refl}, proofs.Common.{sym, ◌∙◌, ap, subst}}
use Rattle.http_uri.specs.Grammar.{IsAuthority}
use Rattle.headers_syntax.{specs.Lines.{Line, first_line}, specs.HeaderLaws.HeaderLaws}
use Rattle.headers_hosts.{specs.OneLine.{Same, line_laws}, specs.Host.{host_bytes, IsHostLine, host_reads, host_writes}}
use Rattle.headers_hosts.specs.declared.host.Host.{Host}

host_once : (line : Line) (v w : Host) → IsHostLine line v → IsHostLine line w → v ≡ w
host_once line v w h k = ap (λ (bytes : Line). let host : Host = record { authority = bytes } in host) (h.2 ∙ sym k.2)

host_back : (line : Line) (v : Host) → IsHostLine line v → IsHostLine (host_bytes v) v
host_back line v h =
    (subst IsAuthority (sym h.2) h.0, subst (λ (bytes : Line). length bytes ≤ 65534) (sym h.2) h.1, refl)

pub host_laws : HeaderLaws Same host_reads host_writes
host_laws = line_laws first_line IsHostLine host_bytes (λ line. refl) host_once host_back

-- an authority of at most 65,534 bytes survives a round trip
pub host_read_back : (host : Host) → IsAuthority (host_bytes host)
    → host_reads (host_writes host) host ↔ (length (host_bytes host) ≤ 65534)
host_read_back host a = (
  (λ h. let same : host_bytes host ≡ h.0 = cc (h.1) in
      subst (λ (bytes : Line). length bytes ≤ 65534) (sym same) h.2.1),
  λ short.
      (host_bytes host, refl, (a, short, refl)),
)
