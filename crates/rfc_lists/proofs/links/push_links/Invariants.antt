use Rattle.{std.proofs.Common.{◌≡◌, ◌++◌, length}, rfc_lists.specs.Links.line_text}
use Rattle.rfc_lists.proofs.links.push_links.Given as goal

abbrev pub invariant-loop-link : goal.invariant-loop-link
invariant-loop-link l = l.initial.text.items ++ line_text l.line ≡ l.text.items ++ line_text l.left

abbrev pub decreases-loop-link : goal.decreases-loop-link
decreases-loop-link l = length l.left
