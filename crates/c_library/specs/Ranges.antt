-- The ranges of `range`, as C sees them.
use Rattle.std.specs.{Prelude.{◌≡◌, ℕ, List, Option, Some, None}, List.filter_map}
use Rattle.{std.specs.declared.ops.Bound.TheVariants.Included, headers.specs.ByteRanges.{ByteRange, gives, specs}}
use Rattle.headers.specs.{ByteRanges.range_line, HeaderLaws.ReadsBy, Lines.{Line, first_line}, Shapes.one_line}
use Rattle.c_decisions.specs.declared.selection.BytesRange.{BytesRange}

-- the range between two bounds, if both are included, as those of a satisfiable range are
abbrev pub bytes_range : ByteRange → Option BytesRange
bytes_range (Included first, Included last) = Some (record { first = first; last = last })
bytes_range (first, last) = None

-- the first line, if it is text that begins with `bytes=`
abbrev pub reads_range : List Line → Line → Type 0
reads_range = ReadsBy (one_line (λ (line : Line). line) first_line range_line (λ (line : Line). line))

-- the ranges that the specs of the first line give for the length
abbrev pub reads_ranges : ℕ → List Line → List BytesRange → Type 0
reads_ranges length lines ranges =
    (line : Line) × reads_range lines line × (ranges ≡ filter_map bytes_range (filter_map (gives length) (specs line)))
