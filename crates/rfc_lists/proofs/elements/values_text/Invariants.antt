use Rattle.{std.proofs.Common.{◌≡◌, ◌++◌}, headers_syntax.specs.Lines.lines_of, rfc_lists.specs.Elements.values_text}
use Rattle.rfc_lists.proofs.elements.values_text.Given as goal

abbrev pub invariant-loop-value : goal.invariant-loop-value
invariant-loop-value l = values_text l.form (lines_of l.initial.value-iterator)
    ≡ l.text.items ++ values_text l.form (lines_of l.value-iterator)
