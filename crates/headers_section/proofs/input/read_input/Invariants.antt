use Rattle.std.{proofs.Common.{◌+◌, ◌-◌, ◌<◌, length}, specs.Io.KnownBytes.Consumes}
use Rattle.headers_section.specs.Section.{input_limit}
use Rattle.headers_section.proofs.input.read_input.Given as goal

abbrev pub invariant-loop-buffer : goal.invariant-loop-buffer
invariant-loop-buffer g l =
    Consumes (g.R.Read.remaining l.fn.reader) (g.R.Read.remaining l.reader) l.input.items × (0 < length l.buffer)

abbrev pub decreases-loop-buffer : goal.decreases-loop-buffer
decreases-loop-buffer g l = input_limit + 1 - length l.input.items
