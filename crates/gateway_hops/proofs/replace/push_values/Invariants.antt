use Rattle.{std.{proofs.Common.{◌≡◌, ◌++◌}, specs.Vec.Iter.into_iter_items}, headers.specs.Lines.lines_of}
use Rattle.{gateway_messages.specs.FieldLines.fields_of, gateway_hops.specs.Replaced.lines_with_name}
use Rattle.gateway_hops.proofs.replace.push_values.Given as goal

abbrev pub invariant-loop-value : goal.invariant-loop-value
invariant-loop-value l =
    fields_of l.fields.items ++ lines_with_name (l.name, lines_of (into_iter_items l.value-iterator))
    ≡ fields_of l.initial.fields.items ++ lines_with_name (l.name, lines_of l.fn.lines.items)
