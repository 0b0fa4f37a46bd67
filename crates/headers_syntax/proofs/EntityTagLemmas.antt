-- Facts on entity tags.
use Rattle.headers_syntax.specs.EntityTag.{FindsTag, IsSomeTag, IsTag, TagParts, between_quotes, is_tag, is_tag_byte}
use Rattle.{headers_syntax.specs.{EntityTag.{parts_of, tag_text}, Text.quote}, http_header.specs.Token.AllPass}
use Rattle.std.proofs.Common.{Bool, IsTrue, List, None, Option, Some, [], ap, arith, false, is_some, length-append}
use Rattle.std.proofs.{Common.{subst, sym, take, true, ℕ, ◌++◌, ◌-◌, ◌↔◌, ◌∙◌, ◌∷◌, ◌≡◌}, Math.Seq.take-append_seam}
use Rattle.std.proofs.lemmas.{Bool.{and_from, and_parts, false_from_ne_true}, Grind.common_steps}
use Rattle.std.proofs.lemmas.{List.Sums.{AllPass-from_list_all, list_all-from_AllPass}, Slice.Eq.bytes_eq-Decides}
use Rattle.std.specs.{List.list_all, Prelude.bytes_eq}

-- the opaque part by its place
between_quotes_quoted : (opaque : List ℕ) → between_quotes (quote ∷ (opaque ++ quote ∷ [])) ≡ opaque
between_quotes_quoted opaque = grind (arith, common_steps, length-append, take, take-append_seam)

parts_of-text : (is_weak : Bool) (opaque : List ℕ) → parts_of (tag_text (record { is_weak = is_weak; opaque = opaque }))
    ≡ record { is_weak = is_weak; opaque = opaque }
parts_of-text true opaque = ap (λ o. record { is_weak = true; opaque = o }) (between_quotes_quoted opaque)
parts_of-text false opaque = ap (λ o. record { is_weak = false; opaque = o }) (between_quotes_quoted opaque)

-- bytes that are a tag have its parts, and no others
pub parts_of-tag : (bytes : List ℕ) (parts : TagParts) → IsTag bytes parts → parts_of bytes ≡ parts
parts_of-tag bytes parts h = ap parts_of h.text ∙ parts_of-text parts.is_weak parts.opaque

pub parts_unique : (bytes : List ℕ) (s t : TagParts) → IsTag bytes s → IsTag bytes t → s ≡ t
parts_unique bytes s t h k = sym (parts_of-tag bytes s h) ∙ parts_of-tag bytes t k

-- of bytes that are a tag, whatever is written as they are passes
pub passes_from_text : (bytes : List ℕ) (parts : TagParts) → bytes ≡ tag_text parts → IsSomeTag bytes
    → AllPass is_tag_byte parts.opaque
passes_from_text bytes parts e h =
    let same : parts ≡ h.0 = sym (ap parts_of e ∙ parts_of-text parts.is_weak parts.opaque) ∙ parts_of-tag bytes h.0 h.1
    in subst (λ (p : TagParts). AllPass is_tag_byte p.opaque) (sym same) h.1.opaque

-- the test for a tag
pub is_tag-true : (bytes : List ℕ) (parts : TagParts) → IsTag bytes parts → is_tag bytes ≡ true
unfolding is_tag
is_tag-true bytes parts h = let same = parts_of-tag bytes parts h in
    and_from _ _ ((bytes_eq-Decides bytes (tag_text (parts_of bytes))).1 (h.text ∙ ap tag_text (sym same)))
    (ap (λ p. list_all is_tag_byte p.opaque) same ∙ list_all-from_AllPass is_tag_byte parts.opaque h.opaque)

pub IsTag-from_is_tag : (bytes : List ℕ) → is_tag bytes ≡ true → IsTag bytes (parts_of bytes)
unfolding is_tag
IsTag-from_is_tag bytes h = let both = and_parts (bytes_eq bytes (tag_text (parts_of bytes))) (list_all is_tag_byte
    (parts_of bytes).opaque) h in grind (arith, common_steps, bytes_eq-Decides, parts_of, AllPass-from_list_all)

pub is_tag-false : (bytes : List ℕ) → ¬ (IsSomeTag bytes) → is_tag bytes ≡ false
is_tag-false bytes h = false_from_ne_true (is_tag bytes) (λ e. h (parts_of bytes, IsTag-from_is_tag bytes e))

-- the test answers as a search for the parts does
pub is_tag_found : (bytes : List ℕ) (found : Option TagParts) → FindsTag bytes found → is_some found ≡ is_tag bytes
is_tag_found bytes None h = sym (is_tag-false bytes h)
is_tag_found bytes (Some parts) h = sym (is_tag-true bytes parts h)

pub is_tag_iff : (bytes : List ℕ) → IsTrue (is_tag bytes) ↔ IsSomeTag bytes
is_tag_iff bytes = (λ e. (parts_of bytes, IsTag-from_is_tag bytes e), λ h. is_tag-true bytes h.0 h.1)
