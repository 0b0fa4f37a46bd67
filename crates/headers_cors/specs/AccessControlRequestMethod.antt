-- The header `access-control-request-method` (W3C CORS, section 5.8).
use Rattle.std.specs.Prelude.{◌≡◌, ℕ, List}
use Rattle.http_header.specs.Token.{IsToken}
use Rattle.headers_syntax.specs.Lines.{Line, first_line}
use Rattle.headers_hosts.specs.OneLine.{ReadsLine, written_line}
use Rattle.headers_cors.specs.declared.access_control_request_method.AccessControlRequestMethod as declared

-- the bytes of the method
abbrev pub method_bytes : declared.AccessControlRequestMethod → List ℕ
method_bytes header = header.method

-- a method (RFC 9110, section 9.1), stored as it is
abbrev pub IsMethodLine : Line → declared.AccessControlRequestMethod → Type 0
IsMethodLine line header = IsToken line × (method_bytes header ≡ line)

-- the first field line is a method, and so is the encoding
abbrev pub request_method_reads : List Line → declared.AccessControlRequestMethod → Type 0
request_method_reads = ReadsLine first_line IsMethodLine

abbrev pub request_method_writes : declared.AccessControlRequestMethod → List Line
request_method_writes = written_line method_bytes
