use Rattle.{std.{proofs.Common.{◌≡◌, ◌+◌, drop}, specs.List.prefix_len}, http_header.specs.Token.is_token_byte}
use Rattle.rfc_fields.proofs.directives.token_len.Given as goal

abbrev pub invariant-loop-place : goal.invariant-loop-place
invariant-loop-place l = prefix_len is_token_byte l.bytes ≡ l.place + prefix_len is_token_byte (drop l.place l.bytes)
