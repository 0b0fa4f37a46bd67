use Rattle.{std.proofs.Common.{◌≡◌, ◌++◌, filter}, headers.specs.ItemsState.{is_entry, items_left}}
use Rattle.c_parts.specs.Written.{lines_text}
use Rattle.c_typed.proofs.members.text_of.Given as goal

abbrev pub invariant-loop-item : goal.invariant-loop-item
invariant-loop-item l = lines_text (filter is_entry (items_left l.initial.item-iterator))
    ≡ l.text.items ++ lines_text (filter is_entry (items_left l.item-iterator))
