-- Subprotocols: what a server takes was asked for, and what its response uses.
use Rattle.std.proofs.Common.{◌≡◌, ℕ, Bool, List, [], ◌∷◌, Some, IsTrue, inl, inr, sym, ◌∙◌, ap, length, arith, find}
use Rattle.{std.proofs.lemmas.Bool.cases_Bool, http_header.specs.FieldValue.FieldValue, headers.specs.LineMap.LineMap}
use Rattle.{headers.specs.Lines.Line, decide_handshake.specs.Protocols.{AsksFor, OffersProtocols, UsesAskedProtocol}}
use Rattle.decide_handshake.specs.Protocols.{lists_protocol, protocol_lines, taken}

-- what is found passes the test
found_passes : {X : Type 0} (test : X → Bool) (xs : List X) (x : X) → find test xs ≡ Some x → IsTrue (test x)
found_passes test [] x is = absurd (cc is)
found_passes test (y ∷ ys) x is = elim (cases_Bool (test y)) [
  | inl passes ↦ let here : Some y ≡ Some x = rw passes at is in let same : y ≡ x = cc here in rw (sym same) passes
  | inr fails ↦ found_passes test ys x (rw fails at is)
]

-- lines that list a subprotocol are some
lists_some : (request : LineMap) (protocol : List ℕ) → OffersProtocols request
    → IsTrue (lists_protocol protocol request) → AsksFor request protocol
lists_some request protocol (inl none) listed = absurd (cc (rw none at listed))
lists_some request protocol (inr well_formed) listed = record { well_formed = well_formed; listed = listed }

-- what a server takes of a handshake's subprotocols, it asks for
pub taken_asked : (request : LineMap) (own : List FieldValue) (protocol : FieldValue) → OffersProtocols request
    → Some protocol ≡ taken request own → AsksFor request protocol.bytes
taken_asked request own protocol offers is =
    lists_some _ _ offers (found_passes (λ (v : FieldValue). lists_protocol v.bytes request) _ _ (sym is))

-- a response with one line uses what it names
pub uses_this : (sent response : LineMap) (protocol : Line) → protocol_lines response ≡ protocol ∷ []
    → UsesAskedProtocol sent response → AsksFor sent protocol
uses_this sent response protocol is (inl none) =
    let lines : protocol ∷ [] ≡ [] = sym is ∙ none in absurd (omega (arith, ap length lines))
uses_this sent response protocol is (inr uses) = rw is at uses

pub uses_asked : (sent response : LineMap) (protocol : Line) → protocol_lines response ≡ protocol ∷ []
    → AsksFor sent protocol → UsesAskedProtocol sent response
uses_asked sent response protocol is asks = inr (rw is asks)
