use Rattle.{std.proofs.Common.{◌≡◌, ◌++◌, take}, server_program.specs.Log.logged}
use Rattle.server_program.proofs.log.push_logged.Given as goal

abbrev pub invariant-loop-byte : goal.invariant-loop-byte
invariant-loop-byte l = l.text.items ≡ l.fn.text.items ++ logged (take l.byte-index l.chosen)
