-- A line of an access log, in the combined format (Common Log Format of the NCSA, with Referer and User-Agent).
use Rattle.std.specs.Prelude.{◌≡◌, ◌≢◌, ◌⊎◌, ℕ, ◌==◌, Bool, not, ◌&&◌, ◌||◌, nat_le, nat_lt, List, [], ◌∷◌, ◌++◌}
use Rattle.std.specs.Prelude.{Option, Some, None, bytes_eq, codes, decimal, flat_map, if◌then◌else◌, slice_range}
use Rattle.{hex.specs.Hex.encode_lower, http.specs.declared.request.Request.Request}
use Rattle.http.specs.{declared.version.{TheConstants.Version.HTTP_10, Version.Version}, Request.head_of}
use Rattle.{http_uri.specs.{declared.uri.Uri.Uri, Uri.{uri_path, uri_query}}, headers.specs.Date.fixdate}
use Rattle.{headers.specs.{LineMap.{LineMap, lines_at}, Lines.Line}, server_connection.specs.Encoding.content_len}
use Rattle.server_connection.specs.declared.plan.ResponsePlan.{ResponsePlan as Response}
use Rattle.server_files.specs.Redirect.{query_text}

-- visible ASCII and the space, but for the quote (34)
abbrev pub is_quotable : ℕ → Bool
is_quotable byte = nat_le 32 byte && (nat_lt byte 127 && not (byte == 34))

-- but for the backslash (92) too
abbrev pub is_plain_byte : ℕ → Bool
is_plain_byte byte = is_quotable byte && not (byte == 92)

-- Any other byte is logged as its two digits, so a client can end neither a quoted text nor a line.
abbrev pub logged_byte : ℕ → List ℕ
logged_byte byte = if is_plain_byte byte then byte ∷ [] else codes "\\x" ++ encode_lower (byte ∷ [])

abbrev pub logged : List ℕ → List ℕ
logged text = flat_map logged_byte text

-- the first field line, or a hyphen
abbrev pub first_of : List Line → List ℕ
first_of [] = codes "-"
first_of (line ∷ lines) = logged line

-- the parts of the time's HTTP-date (RFC 9110, section 5.6.7), or a hyphen
abbrev pub log_time : Option ℕ → List ℕ
log_time None = codes "-"
log_time (Some seconds) =
    slice_range (fixdate seconds) 5 7 ++ codes "/" ++ slice_range (fixdate seconds) 8 11 ++ codes "/"
    ++ slice_range (fixdate seconds) 12 16 ++ codes ":" ++ slice_range (fixdate seconds) 17 25 ++ codes " +0000"

-- how many bytes of content are sent; to HEAD none is
abbrev pub log_size : List ℕ → ℕ → List ℕ
log_size method len = if bytes_eq method (codes "HEAD") || (len == 0) then codes "-" else decimal len

-- what a request asks for: the method, and the path and the query of its target
abbrev pub log_request : List ℕ → Uri → List ℕ
log_request method uri = logged method ++ codes " " ++ logged (uri_path uri) ++ logged (query_text (uri_query uri))

-- the version of HTTP that the request has
abbrev pub IsProtocol : Version → List ℕ → Type 0
IsProtocol version text =
    ((version ≡ HTTP_10) × (text ≡ codes "HTTP/1.0")) ⊎ ((version ≢ HTTP_10) × (text ≡ codes "HTTP/1.1"))

-- what precedes the quoted texts: the client, nobody, nobody, and the time
abbrev pub log_front : List ℕ → Option ℕ → List ℕ
log_front client now = logged client ++ codes " - - [" ++ log_time now ++ codes "] \""

-- what was asked for, between quotes of which the first is there already
abbrev pub log_asked : List ℕ → Uri → List ℕ → List ℕ
log_asked method uri protocol = log_request method uri ++ codes " " ++ protocol ++ codes "\" "

-- the status, and what is sent
abbrev pub log_answered : List ℕ → ℕ → ℕ → List ℕ
log_answered method status len = decimal status ++ codes " " ++ log_size method len

-- where the client comes from, and what it is
abbrev pub log_end : LineMap → List ℕ
log_end fields =
    codes " \"" ++ first_of (fields (codes "referer")) ++ codes "\" \"" ++ first_of (fields (codes "user-agent"))
    ++ codes "\"\n"

-- the line of what came from this client, was rejected with this status, and so is no request of which more is known
abbrev pub log_rejection : List ℕ → Option ℕ → ℕ → List ℕ
log_rejection client now status =
    ((log_front client now ++ codes "-\" ") ++ decimal status) ++ codes " - \"-\" \"-\"\n"

-- the line of a request from this client, that was answered so at this time
pub record IsLogLine (client : List ℕ) (now : Option ℕ) (request : Request (List ℕ)) (response : Response)
    (line : List ℕ) : Type 0 where
  pub protocol : List ℕ
  pub is_protocol : IsProtocol (head_of request).version protocol
  pub is_line : line
      ≡ ((log_front client now ++ log_asked (head_of request).method (head_of request).uri protocol)
      ++ log_answered (head_of request).method response.status (content_len response))
      ++ log_end (lines_at (head_of request).headers)
