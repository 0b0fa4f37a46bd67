use Rattle.std.{proofs.Common.{◌≡◌, ◌++◌}, specs.Vec.Iter.into_iter_items}
use Rattle.headers.specs.LineMap.{fields_of as encodings_of}
use Rattle.gateway_hops.proofs.request.append.Given as goal

abbrev pub invariant-loop-field : goal.invariant-loop-field
invariant-loop-field l = encodings_of l.fields.items ++ encodings_of (into_iter_items l.field-iterator)
    ≡ encodings_of l.initial.fields.items ++ encodings_of l.fn.others.items
