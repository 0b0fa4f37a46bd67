use Rattle.{http_header.specs.Token.is_token_byte, std.{proofs.Common.{drop, ◌+◌, ◌≡◌}, specs.List.prefix_len}}
use Rattle.headers_mime.proofs.reading.token_bytes_len.Given as goal

abbrev pub invariant-loop-i : goal.invariant-loop-i
invariant-loop-i l = prefix_len is_token_byte l.bytes ≡ l.i + prefix_len is_token_byte (drop l.i l.bytes)
