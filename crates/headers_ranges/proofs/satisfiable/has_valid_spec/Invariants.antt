use Rattle.std.{proofs.Common.{◌≡◌, true, length}, specs.List.{filter_map, list_any}}
use Rattle.headers_ranges.specs.ByteRanges.{is_valid_spec, pieces_left, plain_rest, spec_of}
use Rattle.headers_ranges.proofs.satisfiable.has_valid_spec.Given as goal

abbrev pub invariant-loop-piece : goal.invariant-loop-piece
invariant-loop-piece l = record {
  plain : plain_rest l.rest ≡ true;
  specs : list_any is_valid_spec (filter_map spec_of (pieces_left l.rest))
      ≡ list_any is_valid_spec (filter_map spec_of (pieces_left l.initial.rest));
}

abbrev pub decreases-loop-piece : goal.decreases-loop-piece
decreases-loop-piece l = length (pieces_left l.rest)
