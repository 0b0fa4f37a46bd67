use Rattle.std.{proofs.Common.{◌≡◌, ◌++◌, drop}, specs.{Char.encode_utf8, List.flat_map, String.string_bytes}}
use Rattle.rfc_lists.proofs.extended.latin_text.Given as goal

abbrev pub invariant-loop-octet : goal.invariant-loop-octet
invariant-loop-octet l = flat_map encode_utf8 l.octets
    ≡ string_bytes l.text ++ flat_map encode_utf8 (drop l.octet-index l.octets)
