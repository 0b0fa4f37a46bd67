-- An element of a field: a range, its parameters and its weight (RFC 9110, sections 5.6.6 and 12.4.2).
use Rattle.std.specs.Prelude.{ℕ, Bool, true, false, ◌==◌, not, List, [], ◌∷◌, length, filter, filter_map, find, Option}
use Rattle.std.specs.{Prelude.{Some, None, is_some, option_and_then, if◌then◌else◌}, Option.option_map_or}
use Rattle.{std.specs.List.list_all, headers_syntax.specs.Text.trim, rfc_fields.specs.Grammar.semicolon}
use Rattle.rfc_fields.specs.{Members.{members_of, pieces_left}, Scan.{Member, Member.{Whole, Malformed}}}
use Rattle.rfc_fields.specs.{Values.{ValueParts, ValueParts.{TokenText, QuotedText}, is_token}, Weights.weight}
use Rattle.decide_negotiation.specs.Parameters.{ParameterParts, is_weight, parameter_of}
use Rattle.decide_negotiation.specs.declared.element.Element.{Element}

-- ---- what is between the semicolons of a text

-- the text, cut at each semicolon outside quotes (section 5.6.6)
abbrev pub between_semicolons : List ℕ → List Member
between_semicolons text =
    pieces_left (record { separator = semicolon; pairs = true; rest = text; is_done = false })

abbrev pub first_of : List Member → List ℕ
first_of [] = []
first_of (Whole text ∷ others) = trim text
first_of (Malformed ∷ others) = []

abbrev pub others_of : List Member → List Member
others_of [] = []
others_of (Whole text ∷ others) = members_of others
others_of (Malformed ∷ others) = []

-- what is before the first semicolon
unfoldable pub value_of : List ℕ → List ℕ
value_of text = first_of (between_semicolons text)

-- the members between the other semicolons that aren't empty
unfoldable pub members_after : List ℕ → List Member
members_after text = others_of (between_semicolons text)

abbrev pub is_parameter : Member → Bool
is_parameter member = is_some (parameter_of member)

-- each of them is a parameter
abbrev pub has_only_parameters : List ℕ → Bool
has_only_parameters text = list_all is_parameter (members_after text)

-- the parameters of a text
abbrev pub parameters_of : List ℕ → List ParameterParts
parameters_of text = filter_map parameter_of (members_after text)

-- ---- weights

-- the weight that a value is, in thousandths, if it is one; a quoted-string is none
abbrev pub weight_of : ValueParts → Option ℕ
weight_of (TokenText text) = weight text
weight_of (QuotedText text) = None

-- in thousandths; a malformed weight counts as the least one above 0
abbrev pub weight_or_least : Option ℕ → ℕ
weight_or_least None = 1
weight_or_least (Some thousandths) = thousandths

-- the weight among parameters: the first one named `q`, or 1 if there is none
abbrev pub weight_in : List ParameterParts → ℕ
weight_in parameters = option_map_or (λ p. weight_or_least (weight_of p.value)) (find is_weight parameters) 1000

-- ---- elements

pub record ElementParts : Type 0 where
  -- what is before the first semicolon
  pub range : List ℕ
  -- the parameters except the weight
  pub parameters : List ParameterParts
  -- in thousandths
  pub weight : ℕ

-- the parameters of a text that are no weight
abbrev pub own_parameters : List ℕ → List ParameterParts
own_parameters text = filter (λ p. not (is_weight p)) (parameters_of text)

-- the parts of an `Element`
abbrev pub element_parts : Element → ElementParts
element_parts e =
    record { range = e.range.now; parameters = own_parameters e.text.now; weight = e.weight }

-- An element with a parameter that breaks the grammar excludes nothing: it counts with the least weight above 0, or not
-- at all if its weight is 0.
abbrev pub excluding_nothing : ElementParts → Option ElementParts
excluding_nothing e =
    if e.weight == 0 then None else Some (record { range = e.range; parameters = e.parameters; weight = 1 })

abbrev pub element_of : List ℕ → ElementParts
element_of text =
    record { range = value_of text; parameters = own_parameters text; weight = weight_in (parameters_of text) }

-- the element that a text counts as, if it counts
unfoldable pub element_in : List ℕ → Option ElementParts
element_in text =
    if has_only_parameters text then Some (element_of text) else excluding_nothing (element_of text)

-- An element of Accept-Encoding or Accept-Language is a range and perhaps a weight (sections 12.5.3 and 12.5.4). Any
-- other parameter breaks the grammar.
abbrev pub bare : ElementParts → Option ElementParts
bare e =
    if is_token e.range then (if length e.parameters == 0 then Some e else excluding_nothing e) else None

-- the element of Accept-Encoding that a member counts as, if it counts
abbrev pub bare_element_of : Member → Option ElementParts
bare_element_of (Whole text) = option_and_then bare (element_in text)
bare_element_of Malformed = None
