use Rattle.std.proofs.Common.{None, ◌∙◌, ap}
use Rattle.headers_ranges.{specs.ByteRanges.is_range_line, specs.PrintedLaws.{printed_range, fits_none}}
use Rattle.headers_ranges.proofs.range.Range.starting_at.Goals as goal

pub from_text-requires : goal.from_text-requires
from_text-requires c =
    ap is_range_line c.in_ok-format.ensures.ok ∙ printed_range c.args.first None c.ranges.first.fits fits_none
