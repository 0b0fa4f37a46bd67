use Rattle.{std.{proofs.Common.{◌≡◌, ◌+◌, drop}, specs.List.prefix_len}, rfc_lists.specs.Challenges.is_token68_byte}
use Rattle.rfc_lists.proofs.challenges.token68_len.Given as goal

abbrev pub invariant-loop-place : goal.invariant-loop-place
invariant-loop-place l = prefix_len is_token68_byte l.text ≡ l.place + prefix_len is_token68_byte (drop l.place l.text)
