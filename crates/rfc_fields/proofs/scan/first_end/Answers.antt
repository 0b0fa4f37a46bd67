use Rattle.rfc_fields.proofs.ScanLemmas.{end_at, end_nowhere}
use Rattle.rfc_fields.proofs.scan.first_end.Goals as goal

pub returns-in-Some : goal.returns-in-Some
returns-in-Some c = end_at _ _ _ _ _ c.in-Some.ensures c.end_from.ensures

pub returns-in-None : goal.returns-in-None
returns-in-None c = end_nowhere c.args.separator c.args.pairs c.args.text.now c.in-None.ensures
