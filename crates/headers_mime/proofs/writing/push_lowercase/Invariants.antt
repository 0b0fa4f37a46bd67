use Rattle.{http_header.specs.Token.lowercase, std.proofs.Common.{take, ◌++◌, ◌≡◌}}
use Rattle.headers_mime.proofs.writing.push_lowercase.Given as goal

abbrev pub invariant-loop-byte : goal.invariant-loop-byte
invariant-loop-byte l = l.text.items ≡ l.initial.text.items ++ lowercase (take l.byte-index l.bytes)
