use Rattle.{std.proofs.Common.{◌∙◌, ap}, headers.specs.ByteRanges.pieces_left}
use Rattle.decide_preconditions.proofs.RangeSetLemmas.{piece_next, piece_last}
use Rattle.decide_preconditions.proofs.range_set.next_piece.Goals as goal

pub returns-in-Some : goal.returns-in-Some
returns-in-Some c = ap pieces_left c.in_ok-text.was ∙ piece_next c.in_ok-text.text.now _ _ c.in-Some.ensures

pub returns-in-None : goal.returns-in-None
returns-in-None c = ap pieces_left c.in_ok-text.was ∙ piece_last c.in_ok-text.text.now c.in-None.ensures
