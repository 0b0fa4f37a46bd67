use Rattle.{headers_items.proofs.CutLemmas.IsMerged-from, headers_syntax.proofs.OfLinesLemmas.OfLines-none}
use Rattle.{headers_syntax.proofs.OfLinesLemmas.{OfLines-some, OfLines-weaker}, http_header.specs.FieldValue.FieldValue}
use Rattle.std.proofs.{Common.{[], ap, sym, ◌∙◌, ◌∷◌}, lemmas.Result.IfOk-from_err}
use Rattle.headers_items.proofs.flat_csv.FlatCsv.from_lines.Goals as goal

pub returns-in_default : goal.returns-in_default
returns-in_default g c = OfLines-none g.I.Item.AsHeaderValue.shown g.I.Iterator.next_gives _ _ _
    c.in_default.ensures.steps (IsMerged-from g.S.Separator.BYTE [] _ g.S.Separator.lawful
    (c.from_value.ensures ∙ ap (λ (v : FieldValue). v.bytes) c.from_static.ensures))

pub returns-in_default-next : goal.returns-in_default-next
returns-in_default-next g c = OfLines-some g.I.Item.AsHeaderValue.shown g.I.Iterator.next_gives _ _ _ _ _
    c.in-Some.ensures.steps (OfLines-none g.I.Item.AsHeaderValue.shown g.I.Iterator.next_gives _ _ _
    c.in_default-next.ensures.steps (IsMerged-from g.S.Separator.BYTE ((g.I.Item.AsHeaderValue.shown
    c.in-Some.first).bytes ∷ []) _ g.S.Separator.lawful (c.from_value-in_default-next.ensures ∙ ap
    (λ (v : FieldValue). v.bytes) (c.in_ok-clone.ensures.cases ∙ c.as_header_value.ensures))))

pub returns : goal.returns
returns g c = OfLines-some g.I.Item.AsHeaderValue.shown g.I.Iterator.next_gives _ _ _ _ _ c.in-Some.ensures.steps
    (OfLines-some g.I.Item.AsHeaderValue.shown g.I.Iterator.next_gives _ _ _ _ _ c.in-Some-next.ensures.steps
    (OfLines-weaker g.I.Item.AsHeaderValue.shown g.I.Iterator.next_gives _ _ _ _ c.in_ok-joined.ensures (λ ls h. rw
    (sym c.as_header_value-first.ensures) (rw (sym c.as_header_value-second.ensures) (rw c.from_value-2.ensures h)))))

pub returns-in_err-clone : goal.returns-in_err-clone
returns-in_err-clone g c = OfLines-some g.I.Item.AsHeaderValue.shown g.I.Iterator.next_gives _ _ _ _ _
    c.in-Some.ensures.steps (OfLines-none g.I.Item.AsHeaderValue.shown g.I.Iterator.next_gives _ _ _
    c.in_default-next.ensures.steps (IfOk-from_err c.from_residual.result _ c.from_residual.ensures.0))

pub returns-in_err-joined : goal.returns-in_err-joined
returns-in_err-joined g c =
    OfLines-some g.I.Item.AsHeaderValue.shown g.I.Iterator.next_gives _ _ _ _ _ c.in-Some.ensures.steps
    (OfLines-some g.I.Item.AsHeaderValue.shown g.I.Iterator.next_gives _ _ _ _ _ c.in-Some-next.ensures.steps
    (OfLines-weaker g.I.Item.AsHeaderValue.shown g.I.Iterator.next_gives _ _ _ _ c.in_err-joined.ensures
    (λ _ _. IfOk-from_err c.from_residual-in_err-joined.result _ c.from_residual-in_err-joined.ensures.0)))
