use Rattle.{cache_pass.specs.Removals.{group_from, group_of}, std.proofs.Common.{◌<◌, ◌≡◌, drop}}
use Rattle.cache_pass.proofs.noting.group_of.Given as goal

abbrev pub invariant-loop-byte : goal.invariant-loop-byte
invariant-loop-byte l =
    record { rest : group_from l.group (drop l.byte-index l.bytes) ≡ group_of l.fn.target; within : l.group < 1024 }
