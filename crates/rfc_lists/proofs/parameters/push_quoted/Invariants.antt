use Rattle.{std.{proofs.Common.{◌≡◌, ◌++◌, drop}, specs.List.flat_map}, rfc_lists.specs.Parameters.quoted_octet}
use Rattle.rfc_lists.proofs.parameters.push_quoted.Given as goal

abbrev pub invariant-loop-byte : goal.invariant-loop-byte
invariant-loop-byte l = l.initial.text.items ++ flat_map quoted_octet l.given
    ≡ l.text.items ++ flat_map quoted_octet (drop l.byte-index l.given)
