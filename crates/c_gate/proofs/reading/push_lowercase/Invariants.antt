use Rattle.{std.proofs.Common.{◌≡◌, ◌++◌, take}, http_header.specs.Token.lowercase}
use Rattle.c_gate.proofs.reading.push_lowercase.Given as goal

abbrev pub invariant-loop-byte : goal.invariant-loop-byte
invariant-loop-byte l = l.text.items ≡ l.fn.text.items ++ lowercase (take l.byte-index l.bytes)
