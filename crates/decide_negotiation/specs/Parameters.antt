-- Parameters: a name and a value (RFC 9110, section 5.6.6).
use Rattle.std.specs.Prelude.{ℕ, Bool, ◌&&◌, List, codes, Option, None, option_and_then, option_map}
use Rattle.{headers_syntax.specs.AsciiCase.same_name, rfc_fields.specs.Directives.{DirectiveParts, directive_in}}
use Rattle.rfc_fields.specs.{Scan.{Member, Member.{Whole, Malformed}}, Values.{ValueParts, octets_of, value_parts}}
use Rattle.decide_negotiation.specs.declared.parameter.Parameter.{Parameter}

pub record ParameterParts : Type 0 where
  pub name : List ℕ
  pub value : ValueParts

-- the parts of a `Parameter`
abbrev pub parameter_parts : Parameter → ParameterParts
parameter_parts p = record { name = p.name.now; value = value_parts p.value }

-- a directive with a value is a parameter
abbrev pub with_value : DirectiveParts → Option ParameterParts
with_value d = option_map (λ value. record { name = d.name; value = value }) d.argument

-- the parameter that a member is, if it is one
abbrev pub parameter_of : Member → Option ParameterParts
parameter_of (Whole text) = option_and_then with_value (directive_in text)
parameter_of Malformed = None

-- a parameter named `q` is the weight (section 12.4.2)
abbrev pub is_weight : ParameterParts → Bool
is_weight p = same_name p.name (codes "q")

-- both mean the same octets, as tokens or as quoted-strings, ignoring the case of letters
abbrev pub is_same_value : ValueParts → ValueParts → Bool
is_same_value v w = same_name (octets_of v) (octets_of w)

-- name and value are equal, ignoring the case of letters
abbrev pub is_same_parameter : ParameterParts → ParameterParts → Bool
is_same_parameter p q = same_name p.name q.name && is_same_value p.value q.value
