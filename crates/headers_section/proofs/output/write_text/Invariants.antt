use Rattle.std.{proofs.Common.{◌≡◌, ℕ, List, ◌++◌, length}, specs.Io.KnownBytes.Appends}
use Rattle.headers_section.proofs.output.write_text.Given as goal

abbrev pub invariant-loop-rest : goal.invariant-loop-rest
invariant-loop-rest g l =
    (begun : List ℕ) × (l.text ≡ begun ++ l.rest)
    × Appends (g.W.Write.contents l.fn.writer) (g.W.Write.contents l.writer) begun

abbrev pub decreases-loop-rest : goal.decreases-loop-rest
decreases-loop-rest g l = length l.rest
