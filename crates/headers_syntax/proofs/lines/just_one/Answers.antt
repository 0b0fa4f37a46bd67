use Rattle.std.{proofs.Common.{ap, sym, refl}, specs.Prelude.option_map}
use Rattle.headers_syntax.proofs.OfLinesLemmas.{OfLines-stop, OfLines-none, OfLines-some}
use Rattle.headers_syntax.proofs.lines.just_one.Goals as goal

pub returns-in_err-only-clause-value : goal.returns-in_err-only-clause-value
returns-in_err-only-clause-value g c =
    OfLines-none g.I.Item.AsHeaderValue.shown g.I.Iterator.next_gives _ _ _ c.in_err-only.ensures.steps
    (sym (ap (option_map (λ item. (g.I.Item.AsHeaderValue.shown item).bytes)) c.from_residual.ensures))

pub returns-in-None-clause-value : goal.returns-in-None-clause-value
returns-in-None-clause-value g c =
    OfLines-some g.I.Item.AsHeaderValue.shown g.I.Iterator.next_gives _ _ _ _ _ c.in_ok-only.ensures.steps
    (OfLines-none g.I.Item.AsHeaderValue.shown g.I.Iterator.next_gives _ _ _ c.in-None.ensures.steps refl)

pub returns-in-Some-clause-value : goal.returns-in-Some-clause-value
returns-in-Some-clause-value g c = OfLines-some g.I.Item.AsHeaderValue.shown g.I.Iterator.next_gives _ _ _ _ _
    c.in_ok-only.ensures.steps (OfLines-some g.I.Item.AsHeaderValue.shown g.I.Iterator.next_gives _ _ _ _ _
    c.in-Some.ensures.steps (OfLines-stop g.I.Item.AsHeaderValue.shown g.I.Iterator.next_gives _ _ (λ _. refl)))
