use Rattle.std.{proofs.Common.{◌≡◌, ◌++◌}, specs.List.flat_map, specs.Vec.Iter.into_iter_items}
use Rattle.headers.specs.LineMap.{fields_of as encodings_of}
use Rattle.{gateway_messages.specs.FieldLines.fields_of, gateway_hops.specs.Replaced.lines_with_name}
use Rattle.gateway_hops.proofs.replace.push_all.Given as goal

abbrev pub invariant-loop-encoded : goal.invariant-loop-encoded
invariant-loop-encoded l = fields_of l.fields.items
    ++ flat_map lines_with_name (encodings_of (into_iter_items l.encoded-iterator))
    ≡ fields_of l.initial.fields.items ++ flat_map lines_with_name (encodings_of l.fn.own.items)
