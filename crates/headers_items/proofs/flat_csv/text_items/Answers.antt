use Rattle.headers_items.proofs.{PlacesLemmas.items-no_text, WalkLemmas.walk_over-no_text}
use Rattle.{headers_items.specs.ItemsState.items_left, headers_syntax.specs.Text.is_text, std.proofs.Common.{ap, sym}}
use Rattle.std.proofs.Common.{◌∙◌}
use Rattle.headers_items.proofs.flat_csv.text_items.Goals as goal

pub new-requires : goal.new-requires
new-requires g c = ap is_text c.in-Some.ensures.cases.1 ∙ c.in-Some.ensures.cases.0

pub returns-in-None-clause-items : goal.returns-in-None-clause-items
returns-in-None-clause-items g c =
    ap items_left c.none.ensures ∙ sym (items-no_text g.S.Separator.BYTE c.args.value.now.bytes c.in-None.ensures.cases)

pub returns-in-None-clause-fresh : goal.returns-in-None-clause-fresh
returns-in-None-clause-fresh g c = c.none.ensures
    ∙ sym (walk_over-no_text g.S.Separator.BYTE c.args.value.now.bytes c.in-None.ensures.cases)
