use Rattle.{std.{proofs.Common.{◌≡◌, ◌++◌}, specs.Prelude.flat_map}, headers_syntax.specs.Lines.lines_of}
use Rattle.rfc_lists.specs.Links.{line_text}
use Rattle.rfc_lists.proofs.links.links_text.Given as goal

abbrev pub invariant-loop-value : goal.invariant-loop-value
invariant-loop-value l = flat_map line_text (lines_of l.initial.value-iterator)
    ≡ l.text.items ++ flat_map line_text (lines_of l.value-iterator)
