use Rattle.{std.{proofs.Common.{◌≡◌, ◌+◌, drop}, specs.List.position_or_len}, rfc_lists.specs.CookieDates.is_delimiter}
use Rattle.rfc_lists.proofs.cookie_dates.token_len.Given as goal

abbrev pub invariant-loop-place : goal.invariant-loop-place
invariant-loop-place l =
    position_or_len is_delimiter l.text ≡ l.place + position_or_len is_delimiter (drop l.place l.text)
