-- Values that mean tokens, and lists whose elements were all tested.
use Rattle.std.proofs.Common.{◌≡◌, ◌↔◌, ℕ, Bool, true, false, ◌==◌, List, [], ◌∷◌, ◌++◌, length, All, IsTrue, refl, sym}
use Rattle.std.proofs.{Common.{◌∙◌, ap, arith, ◌<◌}, lemmas.Bool.{eqb-true, false_from_ne_true}}
use Rattle.std.{proofs.lemmas.List.append_cancel_right, specs.{Bool.MatchBool, List.{AllWithin, HoldsAt, list_all}}}
use Rattle.{http_header.specs.Token.is_token_byte, rfc_fields.specs.{Grammar.quote, Values.{IsValue, ValueParts}}}
use Rattle.rfc_fields.specs.{Values.{ValueParts.{TokenText, QuotedText}, is_token, octets_of}, Members.field_members}
use Rattle.{headers.specs.Lines.Line, decide_handshake.specs.Extensions.{IsExtensionList, MeansToken, UsesListed}}
use Rattle.decide_handshake.specs.Extensions.{is_among}

some_length : (b : ℕ) (s : List ℕ) → (length (b ∷ s) == 0) ≡ false
some_length b s = false_from_ne_true _ (λ e. let zero = eqb-true _ _ e in omega (arith, zero))

-- a token byte before bytes that were tested
pub token_cons : (b : ℕ) (s all : List ℕ) (r : Bool) → all ≡ b ∷ s → is_token_byte b ≡ true
    → r ≡ list_all is_token_byte s → r ≡ is_token all
token_cons b s all r is first rest = rw (is, first, some_length b s) rest

-- no token has a quote
quote_first : (s : List ℕ) → is_token (quote ∷ s) ≡ false
unfolding is_token_byte
quote_first s = rw (some_length quote s) refl

-- a text is one value at most
one_value : (text : List ℕ) (v w : ValueParts) → IsValue text v → IsValue text w → v ≡ w
one_value text (TokenText s) (TokenText t) h k = ap TokenText (sym h.written ∙ k.written)
one_value text (TokenText s) (QuotedText t) h k =
    let both = sym (quote_first _) ∙ (ap is_token (sym k.written ∙ h.written) ∙ h.valid) in
    absurd (cc both)
one_value text (QuotedText s) (TokenText t) h k =
    let both = sym (quote_first _) ∙ (ap is_token (sym h.written ∙ k.written) ∙ k.valid) in
    absurd (cc both)
one_value text (QuotedText s) (QuotedText t) h k =
    let same : quote ∷ (s ++ quote ∷ []) ≡ quote ∷ (t ++ quote ∷ []) = sym h.written ∙ k.written in
    let inside : s ++ quote ∷ [] ≡ t ++ quote ∷ [] = cc same in
    ap QuotedText (append_cancel_right s t (quote ∷ []) inside)

-- so it means a token exactly if the value that was found does
pub means_token_by : (text : List ℕ) (v : ValueParts) (r : Bool) → IsValue text v → r ≡ is_token (octets_of v)
    → IsTrue r ↔ MeansToken text
means_token_by text v r h is = (
  λ t. record { value = v; is_value = h; token = sym is ∙ t },
  λ m. is ∙ (ap (λ (w : ValueParts). is_token (octets_of w)) (one_value text v m.value h m.is_value) ∙ m.token),
)

-- all were found to have P, or one not to
pub iff_all : {X : Type 0} (P : X → Type 0) (xs : List X) (r : Bool)
    → MatchBool r (AllWithin P xs 0 (length xs)) ((k : ℕ) × (k < length xs) × HoldsAt (λ x. ¬ (P x)) xs k)
    → IsTrue r ↔ All P xs
iff_all P xs true h = (λ _ k d low. h k d (omega arith) low, λ _. refl)
iff_all P [] false h = let low = h.1 in absurd (omega (arith, low))
iff_all P (x ∷ xs) false h = (λ e. absurd (cc e), λ all. absurd (h.2 x (all h.0 x h.1)))

-- each extension of the response was found among those of the handshake, or not
pub uses_listed_by : (sent response : List Line) (r : Bool) → IsExtensionList sent
    → r ≡ list_all (is_among (field_members true sent)) (field_members true response)
    → MatchBool r (UsesListed sent response) (¬ (UsesListed sent response))
uses_listed_by sent response true well_formed is = record { well_formed = well_formed; asked = sym is }
uses_listed_by sent response false well_formed is = λ uses. absurd (cc (is, uses.asked))
