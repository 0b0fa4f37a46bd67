-- The field line that a gateway adds to Via names it.
use Rattle.std.proofs.Common.{◌≡◌, ℕ, true, false, List, [], ◌∷◌, ◌++◌, refl, ap, codes, IsTrue, arith}
use Rattle.std.proofs.{Math.Bool.or-true, lemmas.List.{Elements.All-weaker, Folds.list_any-append}}
use Rattle.std.proofs.lemmas.{List.Splits.slice_split_none, Bool.{ne_eqb, Decides.nat_tests}, Slice.Eq.bytes_eq-Decides}
use Rattle.{std.specs.{Prelude.◌==◌, List.slice_split}, http_header.specs.Token.{IsToken, is_token_byte, lowercase}}
use Rattle.{http_header.proofs.TokenLemmas.token_byte_range, headers.specs.{LineMap.LineMap, Lines.Line}}
use Rattle.gateway_messages.specs.{Forwarding.{Forwards, Message}, Via.{ends_word, is_loop, names_gateway, via_line}}
use Rattle.gateway_messages.specs.declared.{gateway.Gateway.Gateway, protocol.Protocol.Protocol}

no_comma : (b : ℕ) → IsTrue (is_token_byte b) → (b == 44) ≡ false
unfolding is_token_byte
no_comma b t = grind (arith, ne_eqb, is_token_byte)

-- a byte of a token ends no word
inside : (b : ℕ) → IsTrue (is_token_byte b) → ends_word b ≡ false
inside b t = let c = no_comma b t in let r = token_byte_range b t in grind (arith, nat_tests)

words : (protocol : Protocol) (pseudonym : List ℕ) → IsToken pseudonym
    → (first : Line) × (slice_split ends_word (via_line protocol pseudonym) ≡ first ∷ pseudonym ∷ [])
words Protocol.Http10 pseudonym token = (
  codes "1.0",
  ap (λ rest. codes "1.0" ∷ rest) (slice_split_none ends_word pseudonym (All-weaker _ _ inside pseudonym token.1)),
)
words Protocol.Http11 pseudonym token = (
  codes "1.1",
  ap (λ rest. codes "1.1" ∷ rest) (slice_split_none ends_word pseudonym (All-weaker _ _ inside pseudonym token.1)),
)

own_named : (protocol : Protocol) (pseudonym : List ℕ) → IsToken pseudonym
    → names_gateway pseudonym (via_line protocol pseudonym) ≡ true
own_named protocol pseudonym token = let w = words protocol pseudonym token in
    rw w.1 (rw ((bytes_eq-Decides (lowercase pseudonym) (lowercase pseudonym)).1 refl) (or-true _))

pub own_loop : (gateway : Gateway) (message : Message) (received forwarded : LineMap) (added : List Line)
    → IsToken gateway.pseudonym → Forwards gateway message received forwarded
    → is_loop gateway.pseudonym (forwarded (codes "via") ++ added) ≡ true
own_loop gateway message received forwarded added token p = grind (arith, gateway, list_any-append, own_named, or-true)
