-- An element of Forwarded (RFC 7239, section 4).
use Rattle.std.specs.Prelude.{ℕ, ◌==◌, ◌||◌, List, [], ◌∷◌, ◌++◌, Option, Some, None, codes, if◌then◌else◌, option_map}
use Rattle.{std.specs.List.flat_map, headers.specs.Lines.Line, rfc_fields.specs.Grammar.{backslash, quote}}
use Rattle.rfc_fields.specs.Values.{ValueParts, ValueParts.{QuotedText, TokenText}, is_token, value_text}
use Rattle.gateway_hops.specs.{Arrivals.{ArrivalParts, scheme_text}, Nodes.node_text}

-- an octet as it is between quotes
abbrev pub escaped : ℕ → List ℕ
escaped b = if b == quote || b == backslash then backslash ∷ b ∷ [] else b ∷ []

-- value = token / quoted-string: octets as a token, if they are one, else between quotes
abbrev pub value_of : Line → ValueParts
value_of octets = if is_token octets then TokenText octets else QuotedText (flat_map escaped octets)

-- a quoted-string of these octets
abbrev pub quoted_text : Line → Line
quoted_text octets = quote ∷ (flat_map escaped octets ++ quote ∷ [])

-- forwarded-pair = token "=" value
abbrev pub pair_text : List ℕ → Line → Line
pair_text name octets = name ++ (codes "=" ++ value_text (value_of octets))

-- such a pair after a semicolon, if there is one
abbrev pub optional_pair : List ℕ → Option Line → Line
optional_pair name None = []
optional_pair name (Some octets) = codes ";" ++ pair_text name octets

-- the element of a request: who sent it, at which node, to which host, and by which scheme
abbrev pub element_text : ArrivalParts → Line
element_text arrival =
    pair_text (codes "for") (node_text arrival.client)
    ++ (optional_pair (codes "by") (option_map node_text arrival.interface)
    ++ (optional_pair (codes "host") arrival.host ++ optional_pair (codes "proto") (Some (scheme_text arrival.scheme))))
