use Rattle.{std.proofs.Common.{◌≡◌, ◌++◌, length}, headers.specs.LineMap.fields_of}
use Rattle.{c_decisions.specs.FieldLines.fields_text, c_resource.specs.Settled.settled}
use Rattle.c_resource.proofs.settled.settled_text.Given as goal

abbrev pub invariant-loop-left : goal.invariant-loop-left
invariant-loop-left l =
    l.text.items ++ fields_text (settled (fields_of l.left)) ≡ fields_text (settled (fields_of l.fn.fields))

abbrev pub decreases-loop-left : goal.decreases-loop-left
decreases-loop-left l = length l.left
