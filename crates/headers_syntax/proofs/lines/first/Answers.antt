use Rattle.std.proofs.Common.{◌≡◌, option_map, refl}
use Rattle.headers_syntax.{specs.Lines.first_line, proofs.OfLinesLemmas.OfLines-next}
use Rattle.headers_syntax.proofs.lines.first.Goals as goal

pub returns-clause-value : goal.returns-clause-value
returns-clause-value g c = OfLines-next g.I.Item.AsHeaderValue.shown g.I.Iterator.next_gives
    (λ r lines. first_line lines ≡ option_map (λ item. (g.I.Item.AsHeaderValue.shown item).bytes) r) refl (λ _ _. refl)
    _ _ _ c.next.ensures.steps
