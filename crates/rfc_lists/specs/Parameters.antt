-- Parameters as they are written (RFC 9110, section 5.6.6; RFC 8187, section 3.2).
use Rattle.std.specs.Prelude.{ℕ, Bool, true, false, not, ◌&&◌, ◌||◌, ◌==◌, List, [], ◌∷◌, ◌++◌, codes, nat_le, nat_lt}
use Rattle.std.specs.{Prelude.if◌then◌else◌, List.{flat_map, list_all}}
use Rattle.{headers_syntax.specs.AsciiCase.same_name, rfc_fields.specs.{Directives.equals, Grammar.{backslash, quote}}}
use Rattle.{rfc_fields.specs.Values.is_token, rfc_lists.specs.Extended.{extended_value, star}}
use Rattle.rfc_lists.specs.declared.parameters.ParameterKind.{ParameterKind, TheVariants.{Extended, Plain, Quoted}}
use Rattle.rfc_lists.specs.declared.parameters.ParameterKind.TheVariants.{Challenge}

-- a space or visible ASCII
abbrev pub is_plain : ℕ → Bool
is_plain b = nat_le 32 b && nat_lt b 127

-- a quote and a backslash have a backslash before them (RFC 9110, section 5.6.4)
abbrev pub quoted_octet : ℕ → List ℕ
quoted_octet b = if b == quote || b == backslash then backslash ∷ b ∷ [] else b ∷ []

abbrev pub quoted_string : List ℕ → List ℕ
quoted_string text = quote ∷ (flat_map quoted_octet text ++ quote ∷ [])

-- the value of a plain text: a token if it is one
abbrev pub plain_value : List ℕ → List ℕ
plain_value text = if is_token text then text else quoted_string text

-- the names of a challenge's parameters whose values are always in quotes (RFC 9110, section 11.5; RFC 7616, section
-- 3.3)
abbrev pub is_quoted_name : List ℕ → Bool
is_quoted_name name =
    same_name name (codes "realm") || same_name name (codes "domain") || same_name name (codes "nonce")
    || same_name name (codes "opaque") || same_name name (codes "qop")

-- the text is written between quotes, whatever it is
abbrev pub is_quoted : ParameterKind → List ℕ → Bool
is_quoted Extended name = false
is_quoted Plain name = false
is_quoted Quoted name = true
is_quoted Challenge name = is_quoted_name name

abbrev pub value_text : Bool → List ℕ → List ℕ
value_text quoted text = if quoted then quoted_string text else plain_value text

-- the text isn't plain, and is the ext-value of the name with a `*`
abbrev pub is_extended : ParameterKind → List ℕ → Bool
is_extended Extended text = not (list_all is_plain text)
is_extended Plain text = false
is_extended Quoted text = false
is_extended Challenge text = false

-- the parameter of a name for a text
abbrev pub parameter_text : ParameterKind → List ℕ → List ℕ → List ℕ
parameter_text kind name text =
    if is_extended kind text then name ++ star ∷ equals ∷ extended_value text
    else name ++ equals ∷ value_text (is_quoted kind name) text
