use Rattle.std.{proofs.Common.{◌≡◌, length}, specs.List.slice_split}
use Rattle.rfc_lists.specs.CookieDates.{is_delimiter, nothing, with_tokens}
use Rattle.rfc_lists.proofs.cookie_dates.cookie_date.Given as goal

abbrev pub invariant-loop-token : goal.invariant-loop-token
invariant-loop-token l =
    with_tokens nothing (slice_split is_delimiter l.text) ≡ with_tokens l.found (slice_split is_delimiter l.left)

abbrev pub decreases-loop-token : goal.decreases-loop-token
decreases-loop-token l = length l.left
