-- The header `host` (RFC 9110, section 7.2).
use Rattle.std.specs.Prelude.{◌≡◌, ◌≤◌, ℕ, List, length}
use Rattle.http_uri.specs.Grammar.{IsAuthority}
use Rattle.headers_syntax.specs.Lines.{Line, first_line}
use Rattle.headers_hosts.{specs.OneLine.{ReadsLine, written_line}, specs.declared.host.Host.Host}

-- the bytes of a host
abbrev pub host_bytes : Host → List ℕ
host_bytes host = host.authority

-- an authority of at most 65,534 bytes, stored as it is
abbrev pub IsHostLine : Line → Host → Type 0
IsHostLine line host = IsAuthority line × (length line ≤ 65534) × (host_bytes host ≡ line)

-- the first field line is a host, and so is the encoding
abbrev pub host_reads : List Line → Host → Type 0
host_reads = ReadsLine first_line IsHostLine

abbrev pub host_writes : Host → List Line
host_writes = written_line host_bytes
