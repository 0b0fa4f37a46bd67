use Rattle.{std.proofs.Common.{◌≡◌, ◌++◌, filter, flat_map}, headers_section.specs.CanonicalText.line_text}
use Rattle.c_pass.specs.Sending.{FieldLine, is_sent, lines_kept}
use Rattle.c_pass.proofs.sending.print_map.Given as goal

abbrev pub invariant-loop-name : goal.invariant-loop-name
invariant-loop-name l = l.text.items
    ++ flat_map (λ (field : FieldLine). line_text field.0 field.1.bytes)
    (filter (λ (field : FieldLine). is_sent l.answer field.0) l.name-iterator)
    ≡ l.initial.text.items ++ lines_kept l.answer l.map
