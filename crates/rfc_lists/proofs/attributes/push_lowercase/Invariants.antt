use Rattle.{std.proofs.Common.{◌≡◌, ◌++◌, drop}, http_header.specs.Token.lowercase}
use Rattle.rfc_lists.proofs.attributes.push_lowercase.Given as goal

abbrev pub invariant-loop-byte : goal.invariant-loop-byte
invariant-loop-byte l =
    l.initial.text.items ++ lowercase l.bytes ≡ l.text.items ++ lowercase (drop l.byte-index l.bytes)
