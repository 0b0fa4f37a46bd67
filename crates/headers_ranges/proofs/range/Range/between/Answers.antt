use Rattle.std.proofs.Common.{Some, ◌∙◌, ap}
use Rattle.headers_ranges.{specs.ByteRanges.is_range_line, specs.PrintedLaws.{printed_range, fits_some}}
use Rattle.headers_ranges.proofs.range.Range.between.Goals as goal

pub from_text-requires : goal.from_text-requires
from_text-requires c =
    ap is_range_line c.in_ok-format.ensures.ok
    ∙ printed_range c.args.first (Some c.args.last) c.ranges.first.fits (fits_some c.args.last c.ranges.last.fits)
