use Rattle.std.proofs.lemmas.Option.{slice_get-get_or}
use Rattle.c_resource.{specs.Representations.{IsRepresentationAt, lines_by}, proofs.ListLemmas.IsEachAt-push}
use Rattle.c_resource.proofs.representation.representations_by.Goals as goal

pub loop-place-preserved : goal.loop-place-preserved
loop-place-preserved c = rw c.in_ok-push.ensures.items
    (IsEachAt-push (IsRepresentationAt (lines_by c.args.lists.now) c.args.numbers.now) c.loop-place.place
    c.loop-place.representations.items c.in_ok-representation_at.field-0 c.loop-place.invariant (
      _,
      slice_get-get_or c.args.numbers.now c.loop-place.place _ c.loop-place-test.true,
      c.in_ok-representation_at.ensures,
    ))
