use Rattle.headers_section.{specs.Section.Holds, specs.CanonicalText.ListsNames, proofs.TextLemmas.filled-from_names}
use Rattle.headers_section.{proofs.TextLemmas.IsCanonicalText-from_blocks, proofs.text.canonical_text.Goals.In-Some}
use Rattle.headers_section.proofs.text.canonical_text.Goals as goal

-- the fields were read
held : (c : In-Some) → Holds c.args.input c.in-Some.fields.map
held c = rw c.in-Some.is at c.in_ok-fields.ensures.held

listed : (c : In-Some) → ListsNames c.args.input c.in-Some.fields.names.items
listed c = rw c.in-Some.is at c.in_ok-fields.ensures.order

pub print_blocks-requires : goal.print_blocks-requires
print_blocks-requires c =
    let fields = c.in-Some.fields in
    let all = (goal.at.print_blocks-requires c).In-Some in
    rw (← c.as_slice.ensures.value) at (filled-from_names _ fields.map fields.names.items (held all) (listed all))

pub returns-in_ok-text-in-Some-clause-text : goal.returns-in_ok-text-in-Some-clause-text
returns-in_ok-text-in-Some-clause-text c =
    let fields = c.in-Some.fields in
    let text = c.in_ok-text-in-Some.text in
    let all = (goal.at.returns-in_ok-text-in-Some-clause-text c).In-Some in
    IsCanonicalText-from_blocks _ fields.map fields.names.items (held all) (listed all) text.bytes.items
    text.some_refused (rw c.as_slice.ensures.value at c.in_ok-text-in-Some.ensures)
