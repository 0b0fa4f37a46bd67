use Rattle.{std.{proofs.Common.{◌≡◌, ◌++◌, drop}, specs.List.flat_map}, rfc_lists.specs.Extended.encoded}
use Rattle.rfc_lists.proofs.extended.push_extended.Given as goal

abbrev pub invariant-loop-byte : goal.invariant-loop-byte
invariant-loop-byte l = l.initial.text.items ++ flat_map encoded l.given
    ≡ l.text.items ++ flat_map encoded (drop l.byte-index l.given)
