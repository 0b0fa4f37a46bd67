use Rattle.{std.proofs.Common.{◌≡◌, ◌++◌, flat_map}, headers_section.specs.CanonicalText.line_text}
use Rattle.c_pass.specs.{Sending.FieldLine, Validating.map_text}
use Rattle.c_pass.proofs.validating.map_text.Given as goal

abbrev pub invariant-loop-name : goal.invariant-loop-name
invariant-loop-name l =
    l.text.items ++ flat_map (λ (field : FieldLine). line_text field.0 field.1.bytes) l.name-iterator ≡ map_text l.map
