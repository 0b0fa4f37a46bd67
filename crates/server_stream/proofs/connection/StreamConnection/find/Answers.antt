use Rattle.std.proofs.{Common.{arith, inr, refl}, lemmas.Result.{IfErr-weaker, IfOk-weaker, err_from_is_err_and}}
use Rattle.http1.specs.declared.conn.Event.TheVariants as Found
use Rattle.{gateway_connection.proofs.FieldLemmas.fails_as, server_stream.proofs.FieldLemmas.rejection_of}
use Rattle.server_stream.proofs.FindLemmas.{rejects_end, rejects_head, starved, still, takes_head, takes_piece, tells}
use Rattle.server_stream.proofs.connection.StreamConnection.find.Goals as goal

pub returns-in_err-request-in-Head-clause-err : goal.returns-in_err-request-in-Head-clause-err
returns-in_err-request-in-Head-clause-err c =
    let old = c.args.self.now in
    let h = tells old.server _ _ _ _ c.in-Ok.ensures.ok (Found.Head c.in-Head.head) c.in-Head.is in
    let r = c.from_residual in
    let p = err_from_is_err_and r.result r.ensures.1 in
    let e = c.in_err-request-in-Head.ensures in
    fails_as r.result p.1 p.2 _ (rejects_head old c.take_head.new.self c.read.new.self _ _ _ _ _ c.as_slice.ensures h.0
    h.1 e.reason e.failed)

pub returns-in_err-trailers-in-End-clause-err : goal.returns-in_err-trailers-in-End-clause-err
returns-in_err-trailers-in-End-clause-err c =
    let old = c.args.self.now in
    let h = tells old.server _ _ _ _ c.in-Ok.ensures.ok (Found.End c.in-End.count) c.in-End.is in
    let r = c.from_residual-in_err-trailers-in-End in
    let p = err_from_is_err_and r.result r.ensures.1 in
    fails_as r.result p.1 p.2 _ (rejects_end old _ _ _ _ _ _ _ h.0 c.as_slice.ensures h.2 h.3 h.4
    (rejection_of _ _ c.in_err-trailers-in-End.ensures.reason) refl)

pub find_end-requires : goal.find_end-requires
find_end-requires c = grind (arith, starved, tells)

pub returns-then-self-clause-ok : goal.returns-then-self-clause-ok
returns-then-self-clause-ok c = grind (arith, still, IfOk-weaker)

pub returns-then-self-clause-err : goal.returns-then-self-clause-err
returns-then-self-clause-err c =
    let old = c.args.self.now in
    let runs = still old _ _ _ _ c.as_slice.ensures c.in-Ok.ensures.ok c.in-NeedMore.is c.advance.ensures.items refl in
    IfErr-weaker c.find_end.result _ _ (λ why e. inr (e.0, (c.if-self.true, _, runs, e.1))) c.find_end.ensures.err

pub returns-in_ok-request-in-Head-clause-ok : goal.returns-in_ok-request-in-Head-clause-ok
returns-in_ok-request-in-Head-clause-ok c =
    let old = c.args.self.now in
    let h = tells old.server _ _ _ _ c.in-Ok.ensures.ok (Found.Head c.in-Head.head) c.in-Head.is in
    let e = c.in_ok-request-in-Head.ensures in
    takes_head old _ c.read.new.self _ _ _ _ _ c.as_slice.ensures h.0 h.1 e.parts e.rest e.kept

pub returns-in_ok-bytes-in-Data-clause-ok : goal.returns-in_ok-bytes-in-Data-clause-ok
returns-in_ok-bytes-in-Data-clause-ok c =
    let old = c.args.self.now in
    let h = tells old.server _ _ _ _ c.in-Ok.ensures.ok (Found.Data c.in-Data.piece) c.in-Data.is in
    let r = c.in_ok-bytes-in-Data in
    takes_piece old _ _ _ _ _ h.0 h.1 c.as_slice.ensures h.2 h.3 h.4 r.ensures.bytes r.ensures.rest refl
