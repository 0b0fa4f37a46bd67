use Rattle.{std.{proofs.Common.{◌≡◌, ◌∷◌, [], ◌++◌, drop}, specs.List.flat_map}, rfc_fields.specs.Grammar.quote}
use Rattle.gateway_hops.specs.Elements.{escaped}
use Rattle.gateway_hops.proofs.element.push_quoted.Given as goal

abbrev pub invariant-loop-octet : goal.invariant-loop-octet
invariant-loop-octet l = l.text.items ++ flat_map escaped (drop l.octet-index l.octets)
    ≡ l.fn.text.items ++ quote ∷ flat_map escaped l.octets
