use Rattle.std.proofs.Common.{ℕ, ap, ◌+◌, false, ◌≡◌, arith}
use Rattle.headers_items.{proofs.PlacesLemmas.hits_zero, specs.ScanState.ScanState, specs.Places.hits}
use Rattle.headers_items.proofs.scan.Scan.new.Goals as goal

pub returns : goal.returns
returns c =
    let e : hits c.args.separator c.args.bytes.now 0 + 0 ≡ 0 =
    omega (arith, hits_zero c.args.separator c.args.bytes.now) in
    ap (λ (n : ℕ). let r : ScanState =
    record { bytes = c.args.bytes.now; separator = c.args.separator; place = 0; is_ended = false; searches = n }
    in r) e
