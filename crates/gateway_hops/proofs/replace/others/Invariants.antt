use Rattle.std.{proofs.Common.{◌≡◌, ◌++◌, filter, not}, specs.Vec.Iter.into_iter_items}
use Rattle.headers.specs.LineMap.{fields_of as encodings_of}
use Rattle.{gateway_messages.specs.FieldLines.{Field, fields_of}, gateway_hops.specs.Replaced.has_field}
use Rattle.gateway_hops.proofs.replace.others.Given as goal

abbrev pub invariant-loop-field : goal.invariant-loop-field
invariant-loop-field l = fields_of l.others.items
    ++ filter (λ (field : Field). not (has_field (encodings_of l.own) field.0))
    (fields_of (into_iter_items l.field-iterator))
    ≡ filter (λ (field : Field). not (has_field (encodings_of l.own) field.0)) (fields_of l.fn.fields.items)
