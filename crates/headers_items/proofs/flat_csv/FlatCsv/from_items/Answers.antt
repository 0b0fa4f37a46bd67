use Rattle.headers_items.proofs.MergeLemmas.{MergesItems-given}
use Rattle.headers_items.proofs.flat_csv.FlatCsv.from_items.Goals as goal

pub returns : goal.returns
returns g c = MergesItems-given g.I.Iterator.next_gives _ _ g.S.Separator.BYTE _ c.from_lines.ensures
