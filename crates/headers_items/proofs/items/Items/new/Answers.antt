use Rattle.{headers_items.proofs.ItemsLemmas.items_from-le, std.proofs.Common.arith}
use Rattle.headers_items.proofs.items.Items.new.Goals as goal

pub returns-clause-count : goal.returns-clause-count
returns-clause-count g c = omega (arith, items_from-le g.S.Separator.BYTE c.args.text.now 0)
