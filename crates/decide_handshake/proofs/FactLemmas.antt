-- Which facts of a handshake's fields have a test.
use Rattle.std.proofs.Common.{◌≡◌, ℕ, ◌-◌, Bool, List, [], ◌∷◌, ◌++◌, Option, Some, None, sym, ap, ◌∙◌, arith, inl, inr}
use Rattle.std.proofs.{Common.{◌⊎◌, IsTrue, true, drop, length, length-append, subst, take}, Math.Seq.take-append_seam}
use Rattle.std.specs.{Prelude.{codes, ◌==◌, bytes_eq}, List.{list_all, list_any, slice_split}}
use Rattle.{headers.specs.{LineMap.LineMap, Lines.{Line, only_line}, Text.trim}, rfc_fields.specs.Cuts.cut}
use Rattle.rfc_fields.specs.{Directives.{equals, is_same_token, is_token_member}, Grammar.{quote, semicolon}}
use Rattle.rfc_fields.specs.{Members.field_members, Scan.{Member, Member.{Whole, Malformed}}, Values.IsValue}
use Rattle.rfc_fields.specs.Values.{ValueParts, ValueParts.{TokenText, QuotedText}, is_token, is_value, octets_of}
use Rattle.{rfc_fields.specs.Values.value_text, decide_handshake.specs.Extensions.{AreParameters, HasExtensions}}
use Rattle.decide_handshake.specs.Extensions.{IsExtension, IsExtensionList, IsExtensionOf, IsParameter, IsParameterOf}
use Rattle.decide_handshake.specs.Extensions.{MeansToken, UsesAskedExtensions, UsesListed, extension_lines, is_among}
use Rattle.decide_handshake.specs.Fields.{AbsentOr, HasMember, ListsUpgrade, ListsWebsocket, is_protocol}
use Rattle.decide_handshake.specs.Protocols.{AsksFor, IsTokenList, OffersProtocols, UsesAskedProtocol, lists_protocol}
use Rattle.decide_handshake.{specs.Protocols.protocol_lines, proofs.DecisionLemmas.{Decided, alike, below, both}}
use Rattle.decide_handshake.proofs.DecisionLemmas.{by_test, cases_Decided, each, either, is_empty, never, same_bytes}
use Rattle.decide_handshake.proofs.DecisionLemmas.{some_with}

-- ---- lists of tokens

pub lists_upgrade_decided : (map : LineMap) → Decided (ListsUpgrade map)
lists_upgrade_decided map =
    let members = field_members true (map (codes "connection")) in
    alike (both (by_test (list_all is_token_member members))
    (by_test (list_any (is_same_token (codes "upgrade")) members)))
    (λ h. record { tokens = h.0; listed = h.1 }) (λ h. (h.tokens, h.listed))

pub lists_websocket_decided : (map : LineMap) → Decided (ListsWebsocket map)
lists_websocket_decided map =
    let members = field_members true (map (codes "upgrade")) in
    alike (both (by_test (list_all is_protocol members))
    (by_test (list_any (is_same_token (codes "websocket")) members)))
    (λ h. record { protocols = h.0; listed = h.1 }) (λ h. (h.protocols, h.listed))

member_decided : (lines : List Line) → Decided (HasMember lines)
member_decided lines = below 0 (length (field_members true lines))

token_list : (lines : List Line) → Decided (IsTokenList lines)
token_list lines = alike (both (member_decided lines) (by_test (list_all is_token_member (field_members true lines))))
    (λ h. record { some = h.0; tokens = h.1 }) (λ h. (h.some, h.tokens))

pub offers_decided : (request : LineMap) → Decided (OffersProtocols request)
offers_decided request = either (is_empty (protocol_lines request)) (token_list (protocol_lines request))

asks_decided : (sent : LineMap) (protocol : List ℕ) → Decided (AsksFor sent protocol)
asks_decided sent protocol = alike (both (token_list (protocol_lines sent)) (by_test (lists_protocol protocol sent)))
    (λ h. record { well_formed = h.0; listed = h.1 }) (λ h. (h.well_formed, h.listed))

pub protocol_decided : (sent response : LineMap) → Decided (UsesAskedProtocol sent response)
protocol_decided sent response = either (is_empty (protocol_lines response))
    (some_with (AsksFor sent) (asks_decided sent) (only_line (protocol_lines response)))

-- ---- extensions

-- what is between the first and the last byte
inside : List ℕ → List ℕ
inside text = take (length text - 2) (drop 1 text)

inside-quoted : (s : List ℕ) → inside (quote ∷ (s ++ quote ∷ [])) ≡ s
unfolding inside
inside-quoted s =
    let len : length (quote ∷ (s ++ quote ∷ [])) - 2 ≡ length s = omega (arith, length-append s (quote ∷ [])) in
    ap (λ (n : ℕ). take n (s ++ quote ∷ [])) len ∙ take-append_seam s (quote ∷ [])

-- the text is this value, which means a token
abbrev Means : List ℕ → ValueParts → Type 0
Means text v = IsValue text v × IsTrue (is_token (octets_of v))

means_by : (text : List ℕ) (v : ValueParts) → Decided (Means text v)
means_by text v = both (alike (both (by_test (is_value v)) (same_bytes text (value_text v)))
    (λ h. record { valid = h.0; written = h.1 }) (λ h. (h.valid, h.written))) (by_test (is_token (octets_of v)))

-- a value is the text, or what is inside of it
one_of_two : (text : List ℕ) → MeansToken text → Means text (TokenText text) ⊎ Means text (QuotedText (inside text))
one_of_two text m = by m.value (m.is_value, m.token)
  where
    by : (v : ValueParts) → Means text v → Means text (TokenText text) ⊎ Means text (QuotedText (inside text))
    by (TokenText s) h = inl (subst (λ (x : List ℕ). Means text (TokenText x)) (sym h.0.written) h)
    by (QuotedText s) h =
        let same : inside text ≡ s = ap inside h.0.written ∙ inside-quoted s in
        inr (subst (λ (x : List ℕ). Means text (QuotedText x)) (sym same) h)

means_token : (text : List ℕ) → Decided (MeansToken text)
means_token text = alike (either (means_by text (TokenText text)) (means_by text (QuotedText (inside text))))
    (λ h. elim h [
      | inl t ↦ record { value = TokenText text; is_value = t.0; token = t.1 }
      | inr q ↦ record { value = QuotedText (inside text); is_value = q.0; token = q.1 }
    ]) (one_of_two text)

parameter_of : (text : List ℕ) (sides : Option (List ℕ × List ℕ)) → Decided (IsParameterOf text sides)
parameter_of text None = by_test (is_token text)
parameter_of text (Some sides) = both (by_test (is_token (trim sides.0))) (means_token (trim sides.1))

parameters : (text : List ℕ) → Decided (AreParameters text)
parameters text = each (λ (parameter : List ℕ). IsParameter (trim parameter))
    (λ parameter. parameter_of (trim parameter) (cut equals (trim parameter))) (slice_split (λ b. b == semicolon) text)

extension_of : (text : List ℕ) (sides : Option (List ℕ × List ℕ)) → Decided (IsExtensionOf text sides)
extension_of text None = by_test (is_token text)
extension_of text (Some sides) = both (by_test (is_token (trim sides.0))) (parameters sides.1)

extension : (member : Member) → Decided (IsExtension member)
extension (Whole element) = extension_of element (cut semicolon element)
extension Malformed = never (λ h. h)

extension_list : (lines : List Line) → Decided (IsExtensionList lines)
extension_list lines = alike (both (member_decided lines) (each IsExtension extension (field_members true lines)))
    (λ h. record { some = h.0; each = h.1 }) (λ h. (h.some, h.each))

pub extensions_decided : (map : LineMap) → Decided (HasExtensions map)
extensions_decided map = either (is_empty (extension_lines map)) (extension_list (extension_lines map))

uses_decided : (sent response : List Line) → Decided (UsesListed sent response)
uses_decided sent response = alike (both (extension_list sent)
    (by_test (list_all (is_among (field_members true sent)) (field_members true response))))
    (λ h. record { well_formed = h.0; asked = h.1 }) (λ h. (h.well_formed, h.asked))

pub asked_decided : (sent response : LineMap) → Decided (UsesAskedExtensions sent response)
asked_decided sent response =
    either (is_empty (extension_lines response)) (uses_decided (extension_lines sent) (extension_lines response))
