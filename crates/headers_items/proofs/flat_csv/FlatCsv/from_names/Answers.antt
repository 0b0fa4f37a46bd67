use Rattle.{headers_items.proofs.MergeLemmas.MergesLines-mapped, std.proofs.{Common.arith, lemmas.Grind.common_steps}}
use Rattle.headers_items.proofs.flat_csv.FlatCsv.from_names.Goals as goal

pub returns : goal.returns
returns g c = MergesLines-mapped g.I.Iterator.next_gives _ (λ f f' x v h. grind (arith, common_steps)) c.map.result
    c.args.names g.S.Separator.BYTE _ c.map.ensures.source c.from_items.ensures
