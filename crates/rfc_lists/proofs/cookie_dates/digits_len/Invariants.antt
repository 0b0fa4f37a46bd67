use Rattle.std.{proofs.Common.{◌≡◌, ◌+◌, drop}, specs.{Char.is_ascii_digit, List.prefix_len}}
use Rattle.rfc_lists.proofs.cookie_dates.digits_len.Given as goal

abbrev pub invariant-loop-place : goal.invariant-loop-place
invariant-loop-place l = prefix_len is_ascii_digit l.text ≡ l.place + prefix_len is_ascii_digit (drop l.place l.text)
