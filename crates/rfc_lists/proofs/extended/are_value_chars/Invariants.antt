use Rattle.{std.proofs.Common.{◌≡◌, drop}, rfc_lists.specs.Extended.are_value_chars}
use Rattle.rfc_lists.proofs.extended.are_value_chars.Given as goal

abbrev pub invariant-loop-byte : goal.invariant-loop-byte
invariant-loop-byte l = are_value_chars 0 l.text ≡ are_value_chars l.due (drop l.byte-index l.text)
