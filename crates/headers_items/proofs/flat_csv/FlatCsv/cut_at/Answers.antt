use Rattle.headers_items.proofs.CutAtLemmas.{AreCuts-more, lines_of_push, pieces_last, pieces_more}
use Rattle.headers_items.{proofs.CutLemmas.items_cut_at, specs.{Merge.merge, Places.{items, pieces}}}
use Rattle.{headers_syntax.specs.Lines.lines_of, std.proofs.Common.{ap, arith, get_or, refl, ◌∙◌}}
use Rattle.headers_items.proofs.flat_csv.FlatCsv.cut_at.Goals as goal

pub loop-place-preserved : goal.loop-place-preserved
loop-place-preserved g c = let s = c.as_bytes-bytes.result.now in let i = c.loop-place.place-index in
    let places = c.args.places.now in let p = get_or places i 0 in
    let more = lines_of_push c.loop-place.lines.items c.push.new.self.items c.in_ok-copy_of.field-0 _
    c.in_ok-push.ensures.items c.in_ok-copy_of.ensures in
    let cuts = AreCuts-more g.S.Separator.BYTE s c.loop-place.start i places c.loop-place-test.true
    c.loop-place.invariant.rest in let high = cuts.1 in
    record {
      so_far = pieces_more s c.loop-place.start p i places (lines_of c.loop-place.lines.items) (lines_of
          c.push.new.self.items) (pieces s 0 places) c.loop-place-test.true refl c.loop-place.invariant.so_far more;
      rest = cuts.3;
      within = omega arith;
    }

pub returns-clause-pieces : goal.returns-clause-pieces
returns-clause-pieces g c =
    let s = c.as_bytes-bytes.result.now in let i = c.loop-place.place-index in let places = c.args.places.now in
    let more = lines_of_push c.loop-place.lines.items c.push-2.new.self.items c.in_ok-copy_of-2.field-0 _
    c.in_ok-push-2.ensures.items c.in_ok-copy_of-2.ensures in
    pieces_last s c.loop-place.start i places (lines_of c.loop-place.lines.items) (lines_of c.push-2.new.self.items)
    (pieces s 0 places) c.loop-place-test.false c.loop-place.invariant.so_far more ∙ ap (λ r. pieces r 0 places)
    c.as_bytes-bytes.ensures.value

pub returns-clause-items_kept : goal.returns-clause-items_kept
returns-clause-items_kept g c =
    ap (λ r. items g.S.Separator.BYTE (merge g.S.Separator.BYTE r)) (returns-clause-pieces g c) ∙ items_cut_at
    g.S.Separator.BYTE c.args.self.now c.args.places.now g.S.Separator.lawful c.requires.text c.requires.cuts
