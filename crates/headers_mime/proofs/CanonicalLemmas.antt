-- The canonical text of a reading reads as that reading in canonical form, whose canonical text it is.
use Rattle.headers_mime.specs.MediaType.{IsCanonical, IsMediaType, IsParameter, IsQuotedString, IsSegment, MediaType}
use Rattle.headers_mime.specs.MediaType.{Parameter, Segment, canonical, canonical_parameter, canonical_parts}
use Rattle.{headers_mime.specs.MediaType.{canonical_value, media_text, parameters_of}, std.proofs.Common.{IsTrue, List}}
use Rattle.std.proofs.Common.{Some, [], ap, append-nil, arith, false, map, refl, subst, true, ℕ, ◌∷◌, ◌≡◌, ◌⊎◌}
use Rattle.std.proofs.lemmas.List.{Elements.{All-cons, All-head, All-map, All-nil, All-tail, All-weaker}, length-map}
use Rattle.http_header.proofs.TokenLemmas.{is_token_byte-to_ascii_lowercase, lowercase-lowercase_lem}
use Rattle.headers_mime.{proofs.ReadingLemmas.media-from_read, specs.MediaTypeReading.{canonical_of, read_media}}
use Rattle.{headers_syntax.proofs.OptionLemmas.map_parts, http_header.specs.Token.{IsToken, is_token_byte, lowercase}}
use Rattle.{headers_syntax.specs.Text.is_blank, std.proofs.lemmas.{Grind.common_steps, List.Folds.flat_map-map}}
use Rattle.std.specs.{Char.to_ascii_lowercase, List.{All, list_all}}

-- a token in lower case is one
lowercase-token : (s : List ℕ) → IsToken s → IsToken (lowercase s)
lowercase-token s token =
    let P : ℕ → Type 0 = λ b. IsTrue (is_token_byte b) in (
      omega (arith, token.0, length-map s to_ascii_lowercase),
      All-map P to_ascii_lowercase s (grind (arith, common_steps, All-weaker, is_token_byte-to_ascii_lowercase)),
    )

-- a quoted string is no token
quoted-no_token : (s : List ℕ) → IsQuotedString s → list_all is_token_byte s ≡ true → ⊥
unfolding is_token_byte
quoted-no_token s q all = let no : false ≡ true = rw q.text at all in cc no

-- a canonical parameter is one
canonical_value-valid : (p : Parameter) → IsParameter p
    → IsToken (canonical_value p) ⊎ IsQuotedString (canonical_value p)
canonical_value-valid p valid = grind (arith, lowercase-token, quoted-no_token)

canonical_parameter-valid : (p : Parameter) → IsParameter p → IsParameter (canonical_parameter p)
canonical_parameter-valid p valid = grind (arith, common_steps, lowercase-token, canonical_value-valid)

-- and is its own canonical form
canonical_parameter-twice : (p : Parameter) → canonical_parameter (canonical_parameter p) ≡ canonical_parameter p
canonical_parameter-twice p = grind (arith, lowercase-lowercase_lem)

canonical_parameters-twice : (ps : List Parameter)
    → map canonical_parameter (map canonical_parameter ps) ≡ map canonical_parameter ps
canonical_parameters-twice [] = refl
canonical_parameters-twice (p ∷ ps) = rw (canonical_parameter-twice p, canonical_parameters-twice ps) refl

-- parts in canonical form stay
pub canonical_parts-twice : (m : MediaType) → canonical_parts (canonical_parts m) ≡ canonical_parts m
canonical_parts-twice m = grind (arith, common_steps, lowercase-lowercase_lem, canonical_parameters-twice)

-- a parameter after a semicolon and a space
abbrev canonical_segment : Parameter → Segment
canonical_segment p = record { before = []; after = 32 ∷ []; parameter = Some p }

parameters_of-canonical : (ps : List Parameter) → ps ≡ parameters_of (map canonical_segment ps)
parameters_of-canonical [] = refl
parameters_of-canonical (p ∷ ps) = ap (λ (ps : List Parameter). p ∷ ps) (parameters_of-canonical ps)

canonical_segment-valid : (p : Parameter) → IsParameter p → IsSegment (canonical_segment p)
canonical_segment-valid p valid = grind (arith, All-nil, All-cons)

-- the parameters of segments are valid
pub parameters-valid : (segments : List Segment) → All IsSegment segments → All IsParameter (parameters_of segments)
parameters-valid [] valid = All-nil IsParameter
parameters-valid (s ∷ segments) valid = let here = All-head IsSegment s segments valid in
    let later = All-tail IsSegment s segments valid in grind (arith, parameters-valid segments, All-cons IsParameter)

-- the canonical text of a reading reads as its parts in canonical form
pub canonical-media : (s : List ℕ) (m : MediaType) → IsMediaType s m → IsMediaType (canonical m) (canonical_parts m)
canonical-media s m h =
    let ps = map canonical_parameter m.parameters in let blank : ℕ → Type 0 = λ b. IsTrue (is_blank b) in
    let valid : All IsParameter m.parameters = grind (arith, parameters-valid h.segments h.segments_are) in
    let valid' : All IsParameter ps = All-map IsParameter canonical_parameter m.parameters
    (All-weaker IsParameter (λ p. IsParameter (canonical_parameter p)) canonical_parameter-valid m.parameters valid) in
    record {
      front = [];
      segments = map canonical_segment ps;
      back = [];
      text_is = simp (append-nil, flat_map-map);
      parameters_are = parameters_of-canonical ps;
      front_is = All-nil blank;
      top_level_is = lowercase-token m.top_level h.top_level_is;
      subtype_is = lowercase-token m.subtype h.subtype_is;
      segments_are = All-map IsSegment canonical_segment ps
          (All-weaker IsParameter (λ p. IsSegment (canonical_segment p)) canonical_segment-valid ps valid');
      back_is = All-nil blank;
    }

-- and so it is canonical
pub canonical-is_canonical : (s : List ℕ) (m : MediaType) → IsMediaType s m → IsCanonical (canonical m)
canonical-is_canonical s m h = (canonical_parts m, canonical-media s m h, ap media_text (canonical_parts-twice m))

pub canonical-from_canonical_of : (s t : List ℕ) → canonical_of s ≡ Some t → IsCanonical t
canonical-from_canonical_of s t h = let m = map_parts canonical (read_media s) t h in
    subst IsCanonical m.2 (canonical-is_canonical s m.0 (media-from_read s m.0 m.1))
