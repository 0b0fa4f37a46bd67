use Rattle.std.proofs.Common.{Some, None, sym, subst}
use Rattle.headers_items.{specs.ScanState.FindsMark, proofs.JumpLemmas.ahead}
use Rattle.headers_items.proofs.scan.find_mark.Goals as goal

pub returns : goal.returns
returns c = (ahead c.args.separator c.args.bytes.now c.args.from c.args.is_open (Some c.in_ok-place.field-0)
    c.requires.from c.requires.is_open c.in_ok-place.ensures).1

pub returns-in_err-place : goal.returns-in_err-place
returns-in_err-place c = subst (FindsMark c.args.separator c.args.bytes.now c.args.from) (sym c.from_residual.ensures)
    (ahead c.args.separator c.args.bytes.now c.args.from c.args.is_open None c.requires.from c.requires.is_open
    c.in_err-place.ensures)
