-- Connection options that are one word.
use Rattle.std.proofs.Common.{◌≡◌, ℕ, Bool, true, false, ◌||◌, List, [], ◌∷◌, codes, refl}
use Rattle.{headers_syntax.specs.AsciiCase.same_name, rfc_fields.specs.{Members.field_members, Scan.{pieces, push}}}
use Rattle.gateway_messages.specs.HopByHop.{is_named}

or-false : (b : Bool) → (b || false) ≡ b
or-false true = refl
or-false false = refl

pub named-keep_alive : (name : List ℕ)
    → is_named (field_members true (codes "keep-alive" ∷ [])) name ≡ same_name (codes "keep-alive") name
unfolding pieces push
named-keep_alive name = or-false (same_name (codes "keep-alive") name)

pub named-close : (name : List ℕ)
    → is_named (field_members true (codes "close" ∷ [])) name ≡ same_name (codes "close") name
unfolding pieces push
named-close name = or-false (same_name (codes "close") name)
