-- Readers as programs in use are: set by how each is known to read, and by what it did in tests/gateway.
-- docs/measured/BESIDE_GATEWAYS.md compares each with its program, and names what the family can't tell of them.
use Rattle.std.specs.Prelude.{◌^◌, ◌&&◌, ◌||◌, ℕ, Bool, true, false, not, List, codes, nat_lt, bytes_eq, ◌==◌, length}
use Rattle.std.specs.Prelude.{[], ◌∷◌, ◌++◌, count_by, flat_map, map}
use Rattle.std.specs.Char.{to_ascii_lowercase}
use Rattle.httparse.specs.Ascii.{crlf_bytes}
use Rattle.http1.specs.Fields.{is_named}
use Rattle.gateway_connection.specs.Readers.{Head, LineEnds, Message, Reader, begins_with, Blanks, BlanksAndText}
use Rattle.gateway_connection.specs.Readers.{BlankOrText, CodingFirst, Commas, Crlf, Dash, Digits, EndsLine, IsData}
use Rattle.gateway_connection.specs.Readers.{IsMalformed, Joined, Kept, LastMember, LeftOut, LineEnd, Members, No}
use Rattle.gateway_connection.specs.Readers.{NoFolds, OneSpace, Rejected, RejectsBoth, Same, Spaces, Text, Whole, First}
use Rattle.gateway_connection.specs.Readers.{OnlyBlanks}

abbrev pub crlf_alone : LineEnds
crlf_alone = record { bare_lf = IsMalformed; bare_cr = IsMalformed }

abbrev pub lf_too : LineEnds
lf_too = record { bare_lf = EndsLine; bare_cr = IsMalformed }

-- a version that isn't of HTTP
abbrev pub has_odd_version : ℕ → Head → Bool
has_odd_version len head = not (begins_with (codes "http/") (map to_ascii_lowercase head.version))

-- the same, no Host in another version than 1.0, or several (RFC 9112, section 3.2)
abbrev pub has_odd_host : ℕ → Head → Bool
has_odd_host len head =
    let hosts = count_by (is_named (codes "host")) head.fields in
    has_odd_version len head || nat_lt 1 hosts || ((hosts == 0) && not (bytes_eq head.version (codes "HTTP/1.0")))

-- the same, or a coding in HTTP/1.0
abbrev pub has_old_coding : ℕ → Head → Bool
has_old_coding len head =
    has_odd_host len head || (bytes_eq head.version (codes "HTTP/1.0")
    && nat_lt 0 (count_by (is_named (codes "transfer-encoding")) head.fields))

-- RFC 9112, and nothing that a recipient may take besides
abbrev pub strict : Reader
strict = record {
  skips_empty_lines = true;
  head_lines = crlf_alone;
  words = OneSpace;
  folds = NoFolds;
  controls = Rejected;
  no_colon = Rejected;
  name_blanks = Rejected;
  odd_names = Rejected;
  spelling = Dash;
  lengths = No;
  number = Digits;
  coding_lines = No;
  codings = Whole;
  other_codings = Rejected;
  http10_has_codings = true;
  both = RejectsBoth;
  chunk_lines = crlf_alone;
  blanks_before_size = false;
  no_size_is_zero = false;
  extensions = Text;
  data_end = Crlf;
  trailer_lines = crlf_alone;
  parses_trailers = true;
  length_limit = 2 ^ 63;
  size_limit = 2 ^ 63;
  size_digits = 16;
  rejects_head = has_old_coding;
  rejects_content = λ content. false;
  rejects_trailers = λ lines. false;
}

-- nginx 1.22: src/http/ngx_http_parse.c, ngx_http_request.c. Fields with odd names are ignored.
abbrev pub nginx : Reader
nginx = record strict {
  head_lines = lf_too;
  words = Spaces;
  controls = Kept;
  no_colon = Kept;
  odd_names = LeftOut;
  chunk_lines = lf_too;
  extensions = BlankOrText;
  data_end = LineEnd;
  trailer_lines = lf_too;
  parses_trailers = false;
  size_digits = 2 ^ 20;
}

-- Apache 2.4 as it is set up: server/protocol.c, modules/http/http_filters.c
abbrev pub apache : Reader
apache = record strict {
  folds = Joined;
  lengths = Commas;
  coding_lines = Commas;
  codings = LastMember;
  both = CodingFirst;
  extensions = BlanksAndText;
  size_digits = 2 ^ 20;
  rejects_head = has_odd_version;
}

-- HAProxy 2.6: src/h1.c, src/mux_h1.c
abbrev pub haproxy : Reader
haproxy = record strict {
  head_lines = lf_too;
  words = Blanks;
  folds = Joined;
  controls = Kept;
  lengths = Commas;
  number = Members;
  coding_lines = Commas;
  codings = LastMember;
  both = CodingFirst;
  chunk_lines = lf_too;
  extensions = BlanksAndText;
  data_end = LineEnd;
  trailer_lines = lf_too;
  length_limit = 2 ^ 64;
  size_limit = 2 ^ 64;
  size_digits = 2 ^ 20;
  rejects_head = has_odd_version;
}

-- Varnish 7.1: bin/varnishd/http1/cache_http1_proto.c, cache_http1_vfp.c. It takes no trailer fields.
abbrev pub varnish : Reader
varnish = record strict {
  head_lines = lf_too;
  words = Blanks;
  folds = Joined;
  coding_lines = First;
  chunk_lines = lf_too;
  blanks_before_size = true;
  extensions = OnlyBlanks;
  data_end = LineEnd;
  trailer_lines = lf_too;
  size_digits = 2 ^ 20;
  rejects_head = has_odd_version;
  rejects_trailers = λ lines. nat_lt 0 (length lines);
}

-- Go 1.19: net/http/request.go, transfer.go, internal/chunked.go, net/textproto/reader.go. HTTP/1.0 has no codings.
abbrev pub go : Reader
go = record strict {
  skips_empty_lines = false;
  head_lines = record { bare_lf = EndsLine; bare_cr = IsData };
  folds = Joined;
  lengths = Same;
  http10_has_codings = false;
  both = CodingFirst;
  chunk_lines = record { bare_lf = EndsLine; bare_cr = IsData };
  no_size_is_zero = true;
  extensions = BlanksAndText;
  trailer_lines = record { bare_lf = EndsLine; bare_cr = IsData };
  parses_trailers = false;
  rejects_head = has_odd_host;
}

-- h11 0.14: _readers.py, _headers.py, _connection.py. HTTP/1.0 has codings.
abbrev pub h11 : Reader
h11 = record strict {
  skips_empty_lines = false;
  head_lines = lf_too;
  folds = Joined;
  controls = Kept;
  lengths = Commas;
  number = Members;
  both = CodingFirst;
  chunk_lines = record { bare_lf = IsMalformed; bare_cr = IsData };
  extensions = BlanksAndText;
  trailer_lines = lf_too;
  length_limit = 2 ^ 128;
  size_limit = 2 ^ 80;
  size_digits = 20;
  rejects_head = has_odd_host;
}

-- ---- a request that they read differently

-- lines that end in CRLF
abbrev pub lines_of : List (List ℕ) → List ℕ
lines_of lines = flat_map (λ line. line ++ crlf_bytes) lines

abbrev pub old_head : List ℕ
old_head = lines_of
    (codes "POST / HTTP/1.0" ∷ codes "Connection: keep-alive" ∷ codes "Transfer-Encoding: chunked" ∷ [] ∷ [])

abbrev pub old_chunks : List ℕ
old_chunks = lines_of (codes "5" ∷ codes "hello" ∷ codes "0" ∷ [] ∷ [])

abbrev pub post_of : List ℕ → Message
post_of content = record { method = codes "POST"; target = codes "/"; content = content }

-- ---- a request that they all take

abbrev pub in_use : List Reader
in_use = strict ∷ nginx ∷ apache ∷ haproxy ∷ varnish ∷ go ∷ h11 ∷ []

abbrev pub plain_post : List ℕ
plain_post = lines_of
    (codes "POST / HTTP/1.1" ∷ codes "Host: a" ∷ codes "Transfer-Encoding: chunked" ∷ [] ∷ []) ++ old_chunks
