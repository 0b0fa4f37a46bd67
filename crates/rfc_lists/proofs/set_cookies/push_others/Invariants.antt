use Rattle.{std.proofs.Common.{◌≡◌, ◌++◌, length}, rfc_lists.specs.SetCookies.other_lines}
use Rattle.rfc_lists.proofs.set_cookies.push_others.Given as goal

abbrev pub invariant-loop-attribute : goal.invariant-loop-attribute
invariant-loop-attribute l = l.initial.text.items ++ other_lines l.attributes ≡ l.text.items ++ other_lines l.left

abbrev pub decreases-loop-attribute : goal.decreases-loop-attribute
decreases-loop-attribute l = length l.left
