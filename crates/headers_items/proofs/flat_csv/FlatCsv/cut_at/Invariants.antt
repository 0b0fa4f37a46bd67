use Rattle.{headers_items.specs.{CutLaw.AreCuts, Places.pieces}, headers_syntax.specs.Lines.lines_of}
use Rattle.std.proofs.Common.{drop, length, ◌++◌, ◌≡◌, ◌≤◌}
use Rattle.headers_items.proofs.flat_csv.FlatCsv.cut_at.Given as goal

abbrev pub invariant-loop-place : goal.invariant-loop-place
invariant-loop-place g l = record {
  so_far : lines_of l.lines.items ++ pieces l.bytes l.start (drop l.place-index l.places) ≡ pieces l.bytes 0 l.places;
  rest : AreCuts g.S.Separator.BYTE l.bytes l.start (drop l.place-index l.places);
  within : l.start ≤ length l.bytes;
}
