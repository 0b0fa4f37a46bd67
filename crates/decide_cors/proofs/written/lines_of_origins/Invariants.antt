use Rattle.{std.proofs.Common.{◌≡◌, map, take}, headers.specs.{Lines.lines_of, Origin.origin_text}}
use Rattle.decide_cors.proofs.written.lines_of_origins.Given as goal

abbrev pub invariant-loop-origin : goal.invariant-loop-origin
invariant-loop-origin l = lines_of l.lines.items ≡ map origin_text (take l.origin-index l.origins)
