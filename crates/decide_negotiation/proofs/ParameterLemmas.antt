-- What the parameters of a text are, one after the other.
use Rattle.{std.{proofs.Common.List, specs.Prelude.{not, filter, filter_map}}, rfc_fields.specs.Scan.Member}
use Rattle.decide_negotiation.specs.Parameters.{ParameterParts, is_weight, parameter_of}

-- the parameters among members
abbrev pub read : List Member → List ParameterParts
read members = filter_map parameter_of members

-- those that are no weight
abbrev pub own : List Member → List ParameterParts
own members = filter (λ p. not (is_weight p)) (read members)
