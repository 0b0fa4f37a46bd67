use Rattle.{std.proofs.Common.{◌≡◌, drop, false}, rfc_fields.specs.Values.is_quoted_text}
use Rattle.rfc_fields.proofs.values.is_quoted_text.Given as goal

abbrev pub invariant-loop-byte : goal.invariant-loop-byte
invariant-loop-byte l = is_quoted_text false l.text ≡ is_quoted_text l.escaped (drop l.byte-index l.text)
