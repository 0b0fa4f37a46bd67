-- Canonical texts are text, and what is read of a text.
use Rattle.headers_mime.specs.MediaType.{IsCanonical, IsMediaType, IsParameter, IsQuotedPart, IsQuotedString, MediaType}
use Rattle.headers_mime.specs.MediaType.{Parameter, QuotedPart, canonical, canonical_parts, equals, media_text}
use Rattle.{headers_mime.specs.MediaType.{parameter_text, parameters_text, quoted_part_text}, std.proofs.Common.IsTrue}
use Rattle.std.proofs.Common.{List, None, Some, [], arith, inl, inr, refl, subst, sym, true, ℕ, ◌∙◌, ◌∷◌, ◌≡◌, ◌⊎◌}
use Rattle.headers_mime.specs.MimeText.{IsMimeText, ReadsMime, is_known, known_texts, text_bytes}
use Rattle.http_header.specs.Token.{IsToken, is_token_byte, is_value_byte, is_visible_or_blank}
use Rattle.std.proofs.lemmas.{List.Sums.{AllPass-from_list_all, list_all-from_AllPass}, Slice.Eq.bytes_eq-Decides}
use Rattle.headers_syntax.specs.{Text.is_text, declared.error.Refused.{Refused, TheVariants.{Invalid, Memory}}}
use Rattle.headers_mime.proofs.{CanonicalLemmas.{canonical-media, parameters-valid}, KnownLemmas.known_texts-canonical}
use Rattle.headers_mime.{proofs.ReadingLemmas.{media-from_read, read_media-media}, specs.declared.mime.Text.Text}
use Rattle.std.proofs.lemmas.{Bool.Decides.nat_tests, List.Elements.{All-head, All-tail, All-weaker}}
use Rattle.headers_mime.specs.{MediaTypeReading.{GivesRead, canonical_of}, declared.mime.Text.TheVariants.{Known, Read}}
use Rattle.{headers_syntax.proofs.TextLemmas.list_all-both, http_header.proofs.TokenLemmas.token_byte_range}
use Rattle.{headers_syntax.proofs.OptionLemmas.map_parts, http_header.specs.FieldValue.IsFieldValue}
use Rattle.std.{proofs.lemmas.Grind.common_steps, specs.{List.{All, flat_map, list_any}, Prelude.{Err, bytes_eq}}}

token_byte-text : (b : ℕ) → is_token_byte b ≡ true → is_visible_or_blank b ≡ true
token_byte-text b t = let range = token_byte_range b t in grind (arith, nat_tests)

text_byte-value : (b : ℕ) → IsTrue (is_visible_or_blank b) → IsTrue (is_value_byte b)
text_byte-value b t = grind (arith, nat_tests)

token-text : (s : List ℕ) → IsToken s → is_text s ≡ true
token-text s token = grind (arith, common_steps, list_all-from_AllPass, All-weaker, token_byte-text)

quoted_parts-text : (parts : List QuotedPart) → All IsQuotedPart parts
    → is_text (flat_map quoted_part_text parts) ≡ true
quoted_parts-text [] valid = refl
quoted_parts-text (part ∷ parts) valid = let here = All-head IsQuotedPart part parts valid in
    let later = All-tail IsQuotedPart part parts valid in grind (arith, quoted_parts-text parts)

value-text : (s : List ℕ) → IsToken s ⊎ IsQuotedString s → is_text s ≡ true
value-text s (inl token) = token-text s token
value-text s (inr q) = grind (arith, common_steps, list_all-both, quoted_parts-text)

parameters-text : (ps : List Parameter) → All IsParameter ps → is_text (parameters_text ps) ≡ true
parameters-text [] valid = refl
parameters-text (p ∷ ps) valid = let here = All-head IsParameter p ps valid in
    let one = list_all-both is_visible_or_blank p.name (equals ∷ p.value) (token-text p.name here.name)
    (value-text p.value here.value) in
    list_all-both is_visible_or_blank (parameter_text p) (parameters_text ps) one
    (parameters-text ps (All-tail IsParameter p ps valid))

-- the parts of a media type are text
media-text : (s : List ℕ) (m : MediaType) → IsMediaType s m → is_text (media_text m) ≡ true
media-text s m h =
    let valid : All IsParameter m.parameters = grind (arith, parameters-valid h.segments h.segments_are) in
    grind (arith, common_steps, list_all-both, token-text, parameters-text)

-- and so is a canonical text
pub canonical-text : (s : List ℕ) (m : MediaType) → IsMediaType s m → is_text (canonical m) ≡ true
canonical-text s m h = media-text (canonical m) (canonical_parts m) (canonical-media s m h)

pub is_canonical-text : (t : List ℕ) → IsCanonical t → is_text t ≡ true
is_canonical-text t h = subst (λ (t : List ℕ). is_text t ≡ true) h.2 (canonical-text t h.0 h.1)

pub is_canonical-value : (t : List ℕ) → IsCanonical t → IsFieldValue t
is_canonical-value t h = All-weaker (λ b. IsTrue (is_visible_or_blank b)) (λ b. IsTrue (is_value_byte b))
    text_byte-value t (AllPass-from_list_all is_visible_or_blank t (is_canonical-text t h))

-- a canonical text is that of a reading
pub reading-from_canonical_of : (s t : List ℕ) → canonical_of s ≡ Some t
    → (m : MediaType) × IsMediaType s m × (t ≡ canonical m)
reading-from_canonical_of s t h = grind (arith, common_steps, map_parts, canonical, media-from_read)

no_reading : (s : List ℕ) → canonical_of s ≡ None → (m : MediaType) → ¬ (IsMediaType s m)
no_reading s none m h = grind (arith, read_media-media s m h)

-- what is refused has no reading
pub refused_reading : {T E : Type 0} (shown : T → List ℕ) (s : List ℕ) (refused : Refused E)
    → GivesRead shown (canonical_of s) (Err refused) → ReadsMime s (Err refused)
refused_reading shown s (Invalid e) none = no_reading s none
refused_reading shown s (Memory e) none = tt

-- a text that is among canonical texts
among-canonical : (texts : List (List ℕ)) (s : List ℕ) → All IsCanonical texts
    → list_any (λ (t : List ℕ). bytes_eq t s) texts ≡ true → IsCanonical s
among-canonical [] s all h = absurd (cc h)
among-canonical (t ∷ texts) s all h = let here = All-head IsCanonical t texts all in
    let later = All-tail IsCanonical t texts all in grind (arith, bytes_eq-Decides t s, among-canonical texts s)

pub known-canonical : (text : List ℕ) → IsTrue (is_known text) → IsCanonical text
known-canonical text h = among-canonical known_texts text known_texts-canonical h

-- so the text of a constant reads as itself
pub known-reads : (text mime : List ℕ) → mime ≡ text → IsTrue (is_known text)
    → (m : MediaType) × IsMediaType text m × (mime ≡ canonical m)
known-reads text mime same h = let c = known-canonical text h in (c.0, c.1, same ∙ sym c.2)

-- what a media type holds is canonical, and so it is text
pub kept-canonical : (text : Text) (t : List ℕ) → IsMimeText text → text_bytes text ≡ t → IsCanonical t
kept-canonical (Known text) t h e = subst IsCanonical e (known-canonical text.now h)
kept-canonical (Read value) t h e = subst IsCanonical e h

pub kept-text : (text : Text) (t : List ℕ) → IsMimeText text → text_bytes text ≡ t → is_text t ≡ true
kept-text text t h e = is_canonical-text t (kept-canonical text t h e)
