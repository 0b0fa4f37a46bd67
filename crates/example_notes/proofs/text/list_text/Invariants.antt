use Rattle.std.{proofs.Common.{◌≡◌, ◌++◌, codes}, specs.BTreeMap.keys, specs.String.string_bytes}
use Rattle.example_notes.specs.Notes.{further_of, items_of}
use Rattle.example_notes.proofs.text.list_text.Given as goal

abbrev pub invariant-loop-id : goal.invariant-loop-id
invariant-loop-id l = string_bytes l.text ++ further_of l.id-iterator ≡ codes "[" ++ items_of (keys l.notes.by_id)
