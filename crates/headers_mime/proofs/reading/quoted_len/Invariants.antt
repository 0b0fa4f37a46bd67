use Rattle.std.{proofs.Common.{◌≡◌, ◌+◌, false, drop}, specs.Prelude.option_map}
use Rattle.headers_mime.specs.MediaTypeReading.{quoted_len}
use Rattle.headers_mime.proofs.reading.quoted_len.Given as goal

abbrev pub invariant-loop-i : goal.invariant-loop-i
invariant-loop-i l = quoted_len false l.bytes ≡ option_map (λ n. l.i + n) (quoted_len l.is_escaped (drop l.i l.bytes))
