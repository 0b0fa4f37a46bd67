use Rattle.std.proofs.{Common.refl, lemmas.Result.err_from_is_err_and}
use Rattle.http1.specs.declared.conn.Event.TheVariants as Found
use Rattle.gateway_connection.proofs.{FieldLemmas.{fails_as, fault_of}, FindLemmas.{breaks, head_fault, head_found}}
use Rattle.gateway_connection.proofs.FindLemmas.{interim_of, tells, still, takes_piece, takes_response, trailers_fault}
use Rattle.gateway_connection.proofs.origin.OriginConnection.find.Goals as goal

pub returns-in_err-response-in-Head-clause-err : goal.returns-in_err-response-in-Head-clause-err
returns-in_err-response-in-Head-clause-err c = let old = c.args.self.now in
    let h = tells old.client _ _ _ _ c.in-Ok.ensures.ok (Found.Head c.in-Head.head) c.in-Head.is in
    let r = c.from_residual in
    let p = err_from_is_err_and r.result r.ensures.1 in
    fails_as r.result p.1 p.2 _
    (breaks old _ _ _ (head_fault old _ _ _ _ _ _ c.as_slice.ensures h.1.1 c.in_err-response-in-Head.ensures.reason))

pub returns-in_ok-response-in-Head-clause-ok : goal.returns-in_ok-response-in-Head-clause-ok
returns-in_ok-response-in-Head-clause-ok c = let old = c.args.self.now in
    let h = tells old.client _ _ _ _ c.in-Ok.ensures.ok (Found.Head c.in-Head.head) c.in-Head.is in
    let r = c.in_ok-response-in-Head in
    head_found old _ _ _ _ _ _ c.as_slice.ensures h.0 h.1 r.ensures.parts
    r.ensures.rest refl _ c.unread_size.ensures _ c.head_event.ensures.switched c.head_event.ensures.stays

pub returns-in_err-response-in-Informational-clause-err : goal.returns-in_err-response-in-Informational-clause-err
returns-in_err-response-in-Informational-clause-err c = let old = c.args.self.now in
    let h = tells old.client _ _ _ _ c.in-Ok.ensures.ok
    (Found.Informational c.in-Informational.head) c.in-Informational.is in
    let r = c.from_residual-in_err-response-in-Informational in
    let p = err_from_is_err_and r.result r.ensures.1 in
    fails_as r.result p.1 p.2 _ (breaks old _ _ _
    (head_fault old _ _ _ _ _ _ c.as_slice.ensures h.1.1 c.in_err-response-in-Informational.ensures.reason))

pub returns-in_ok-response-in-Informational-clause-ok : goal.returns-in_ok-response-in-Informational-clause-ok
returns-in_ok-response-in-Informational-clause-ok c =
    let old = c.args.self.now in
    let h = tells old.client _ _ _ _ c.in-Ok.ensures.ok (Found.Informational c.in-Informational.head)
    c.in-Informational.is in
    let r = c.in_ok-response-in-Informational in (
      interim_of _ _ _ _ _ r.ensures.parts h.1.0,
      takes_response old _ _ _ _ _ _ c.as_slice.ensures h.0 h.1.1 r.ensures.parts r.ensures.rest refl,
    )

pub returns-in_err-trailers-in-End-clause-err : goal.returns-in_err-trailers-in-End-clause-err
returns-in_err-trailers-in-End-clause-err c = let old = c.args.self.now in
    let h = tells old.client _ _ _ _ c.in-Ok.ensures.ok (Found.End c.in-End.count) c.in-End.is in
    let r = c.from_residual-in_err-trailers-in-End in
    let p = err_from_is_err_and r.result r.ensures.1 in
    fails_as r.result p.1 p.2 _ (breaks old _ _ _ (trailers_fault old _ _ _ _ _ _ h.0 c.as_slice.ensures h.2 h.3
    (fault_of _ _ c.in_err-trailers-in-End.ensures.reason)))

pub returns-in_ok-bytes-in-Data-clause-ok : goal.returns-in_ok-bytes-in-Data-clause-ok
returns-in_ok-bytes-in-Data-clause-ok c = let old = c.args.self.now in
    let h = tells old.client _ _ _ _ c.in-Ok.ensures.ok (Found.Data c.in-Data.piece) c.in-Data.is in
    let r = c.in_ok-bytes-in-Data in
    takes_piece old _ _ _ _ _ h.0 h.1 c.as_slice.ensures h.2 h.3 h.4 r.ensures.bytes r.ensures.rest refl

pub returns-else-self-clause-ok : goal.returns-else-self-clause-ok
returns-else-self-clause-ok c = (
  c.if-self.false,
  still c.args.self.now _ _ _ _ c.as_slice.ensures c.in-Ok.ensures.ok c.in-NeedMore.is c.advance.ensures.items refl,
)
