use Rattle.{std.proofs.Common.{◌≡◌, ◌<◌, false, drop}, rfc_fields.specs.CommentScan.behind}
use Rattle.rfc_fields.proofs.comments.skip_comment.Given as goal

abbrev pub invariant-loop-place : goal.invariant-loop-place
invariant-loop-place l =
    (behind (record { outer = 0; is_escaped = false }) (drop 1 l.text) ≡ behind l.nesting (drop l.place l.text))
    × (l.nesting.outer < l.place)
