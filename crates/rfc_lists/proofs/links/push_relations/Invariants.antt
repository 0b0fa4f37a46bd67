use Rattle.{std.proofs.Common.{◌≡◌, ◌++◌, length}, rfc_lists.specs.Links.relation_lines}
use Rattle.rfc_lists.proofs.links.push_relations.Given as goal

abbrev pub invariant-loop-relation : goal.invariant-loop-relation
invariant-loop-relation l = l.initial.text.items ++ relation_lines l.relations ≡ l.text.items ++ relation_lines l.left

abbrev pub decreases-loop-relation : goal.decreases-loop-relation
decreases-loop-relation l = length l.left
