-- What is read from the front on is the grammar of media types.
use Rattle.std.proofs.Common.{IsTrue, List, None, Option, Some, [], ap, append-nil, append_assoc, arith, eqb, false, ℕ}
use Rattle.std.proofs.Common.{inl, inr, length, length-append, length-drop, refl, suc, sym, zero, ◌++◌, ◌∙◌, ◌∷◌, ◌≡◌}
use Rattle.{headers_mime.specs.MediaType.{IsBlanks, IsMediaType, IsParameter, IsSegment, equals}, std.proofs.Common.◌≤◌}
use Rattle.headers_mime.specs.MediaType.{MediaType, Parameter, Segment, optional_text, parameter_text, parameters_of}
use Rattle.headers_mime.specs.{MediaType.{segments_text, semicolon, slash}, MediaTypeReading.{after_byte, begins_with}}
use Rattle.headers_mime.specs.MediaTypeReading.{read_essence, read_media, read_optional, read_parameter, read_segment}
use Rattle.headers_mime.specs.MediaTypeReading.{read_parameters, read_segments, read_token, read_value}
use Rattle.headers_mime.proofs.TokenLemmas.{blanks-trim_start, read_token-token, read_value-value, token-from_read}
use Rattle.headers_mime.proofs.TokenLemmas.{token-head, trim_start-append, trim_start-token, value-from_read}
use Rattle.std.proofs.lemmas.{Bool.{cases_Bool, eqb-true}, List.Elements.{All-cons, All-head, All-nil, All-tail}}
use Rattle.headers_syntax.proofs.{OptionLemmas.{map_parts, then_parts}, TextLemmas.token_no_blank}
use Rattle.{http_header.specs.Token.{IsToken, is_token_byte}, std.proofs.lemmas.{Grind.common_steps, Option.cond_some}}
use Rattle.{headers_syntax.specs.Text.trim_start, std.specs.{List.{All, cons_option}, Prelude.{IfSome, option_map}}}

-- blanks, before what does not begin a token
begins-blanks : (xs ys : List ℕ) → IsBlanks xs → begins_with is_token_byte ys ≡ false
    → begins_with is_token_byte (xs ++ ys) ≡ false
begins-blanks [] ys blank stop = stop
begins-blanks (x ∷ xs) ys blank stop = grind (arith, All-head, token_no_blank)

-- what may follow a value
begins-rest : (segments : List Segment) (back : List ℕ) → All IsSegment segments → IsBlanks back
    → begins_with is_token_byte (segments_text segments ++ back) ≡ false
unfolding is_token_byte
begins-rest [] back valid blank = rw (append-nil back) at (begins-blanks back [] blank refl)
begins-rest (s ∷ segments) back valid blank =
    simp append_assoc (begins-blanks s.before _ (All-head IsSegment s segments valid).before refl)

-- the rest without blanks at its head is empty, or begins with a semicolon
trimmed-nil : (back : List ℕ) → IsBlanks back → trim_start back ≡ []
trimmed-nil back blank = rw (append-nil back) at (trim_start-append back [] blank)

trimmed-cons : (s : Segment) (segments : List Segment) (back : List ℕ) → IsSegment s → trim_start (segments_text (s
    ∷ segments) ++ back) ≡ semicolon ∷ (s.after ++ (optional_text s.parameter ++ (segments_text segments ++ back)))
trimmed-cons s segments back valid = simp append_assoc (trim_start-append s.before _ valid.before)

begins-trimmed : (segments : List Segment) (back : List ℕ) → All IsSegment segments → IsBlanks back
    → begins_with is_token_byte (trim_start (segments_text segments ++ back)) ≡ false
unfolding is_token_byte
begins-trimmed [] back valid blank = rw (trimmed-nil back blank) refl
begins-trimmed (s ∷ segments) back valid blank =
    rw (trimmed-cons s segments back (All-head IsSegment s segments valid)) refl

-- the parameter at the head
read_parameter-parameter : (p : Parameter) (ys : List ℕ) → IsParameter p → begins_with is_token_byte ys ≡ false
    → read_parameter (parameter_text p ++ ys) ≡ Some (p, ys)
unfolding read_parameter is_token_byte
read_parameter-parameter p ys valid stop = let name = read_token-token p.name (equals ∷ (p.value ++ ys)) valid.name refl
    in let value = read_value-value p.value ys valid.value stop in rw (append_assoc, name, value) refl

-- one segment at the head, by what is read of the rest
read_segments-more : (n : ℕ) (after rest : List ℕ) (o : Option Parameter) (ps : List Parameter)
    → IsBlanks after → IfSome o IsParameter → begins_with is_token_byte rest ≡ false
    → begins_with is_token_byte (trim_start rest) ≡ false → read_segments n (trim_start rest) ≡ Some ps
    → read_segments (suc n) (semicolon ∷ (after ++ (optional_text o ++ rest))) ≡ Some (cons_option o ps)
unfolding read_segment read_optional
read_segments-more n after rest None ps blank valid stop begins read =
    rw (trim_start-append after rest blank, begins, read) refl
read_segments-more n after rest (Some p) ps blank valid stop begins read =
    let whole : parameter_text p ++ rest ≡ p.name ++ equals ∷ (p.value ++ rest) = simp append_assoc in
    let trimmed = trim_start-token p.name (equals ∷ (p.value ++ rest)) valid.name in
    let token = token-head p.name (equals ∷ (p.value ++ rest)) valid.name in
    let parameter = read_parameter-parameter p rest valid stop in
    rw (trim_start-append after (parameter_text p ++ rest) blank, whole, trimmed, token, ← whole, parameter, read) refl

-- segments are read back
segments-read : (n : ℕ) (segments : List Segment) (back : List ℕ) → All IsSegment segments → IsBlanks back
    → length (trim_start (segments_text segments ++ back)) ≤ n
    → read_segments n (trim_start (segments_text segments ++ back)) ≡ Some (parameters_of segments)
segments-read n [] back valid blank l = rw (trimmed-nil back blank) refl
segments-read zero (s ∷ segments) back valid blank l = grind (arith, common_steps, trimmed-cons, All-head)
segments-read (suc n) (s ∷ segments) back valid blank l =
    let here = All-head IsSegment s segments valid in let later = All-tail IsSegment s segments valid in
    let rest = segments_text segments ++ back in let e = trimmed-cons s segments back here in
    let shorter : length (trim_start rest) ≤ n = omega (arith, ap length e, length-append {A = ℕ}, length-drop {A = ℕ})
    in
    rw e (read_segments-more n s.after rest s.parameter (parameters_of segments) here.after here.parameter
    (begins-rest segments back later blank) (begins-trimmed segments back later blank)
    (segments-read n segments back later blank shorter))

-- a media type is read back
pub read_media-media : (s : List ℕ) (m : MediaType) → IsMediaType s m → read_media s ≡ Some m
unfolding read_media read_essence read_parameters is_token_byte
read_media-media s m h = let rest = segments_text h.segments ++ h.back in let second = m.subtype ++ rest in
    let blanks = trim_start-append h.front (m.top_level ++ slash ∷ second) h.front_is in
    let trimmed = trim_start-token m.top_level (slash ∷ second) h.top_level_is in
    let top = read_token-token m.top_level (slash ∷ second) h.top_level_is refl in
    let sub = read_token-token m.subtype rest h.subtype_is (begins-rest h.segments h.back h.segments_are h.back_is) in
    let ps = segments-read (length (trim_start rest)) h.segments h.back h.segments_are h.back_is (omega arith) in
    rw (h.text_is, blanks, trimmed, top, sub, ps, ← h.parameters_are) refl

-- a text has one reading at most
pub one_reading : (s : List ℕ) (m n : MediaType) → IsMediaType s m → IsMediaType s n → m ≡ n
one_reading s m n h k = cc (read_media-media s m h, read_media-media s n k)

after_byte-from : (c : ℕ) (s t : List ℕ) → after_byte c s ≡ Some t → s ≡ c ∷ t
after_byte-from c [] t h = absurd (cc h)
after_byte-from c (b ∷ s) t h = let parts = cond_some (eqb b c) s t h in cc (parts.1, eqb-true b c parts.0)

-- what is read as a parameter is one
parameter-from_read : (s : List ℕ) (t : Parameter × List ℕ) → read_parameter s ≡ Some t
    → IsParameter t.0 × (s ≡ parameter_text t.0 ++ t.1)
unfolding read_parameter
parameter-from_read s t h =
    let name = then_parts _ (read_token s) t h in let rest = then_parts _ (after_byte equals name.0.1) t name.2 in
    let value = map_parts _ (read_value rest.0) t rest.2 in let n = token-from_read s name.0 name.1 in
    let v = value-from_read rest.0 value.0 value.1 in grind (arith, common_steps, append_assoc)

-- a segment at the head, and blanks before what follows it
pub record SegmentRead (s : List ℕ) (o : Option Parameter) (rest : List ℕ) : Type 0 where
  pub after : List ℕ
  pub lead : List ℕ
  pub after_is : IsBlanks after
  pub lead_is : IsBlanks lead
  pub parameter_is : IfSome o IsParameter
  pub text_is : s ≡ semicolon ∷ (after ++ (optional_text o ++ (lead ++ rest)))

optional-from_read : (s : List ℕ) (t : Option Parameter × List ℕ) → read_optional s ≡ Some t
    → (lead : List ℕ) × IsBlanks lead × IfSome t.0 IsParameter × (s ≡ optional_text t.0 ++ (lead ++ t.1))
unfolding read_optional
optional-from_read s t h = elim (cases_Bool (begins_with is_token_byte s)) [
  | inr f ↦ grind (arith, All-nil)
  | inl b ↦
      let some : option_map (λ (read : Parameter × List ℕ). (Some read.0, trim_start read.1)) (read_parameter s) ≡ Some
      t = rw b at h in let read = map_parts _ (read_parameter s) t some in
      grind (arith, parameter-from_read s read.0 read.1, blanks-trim_start read.0.1)
]

pub segment-from_read : (s : List ℕ) (t : Option Parameter × List ℕ) → read_segment s ≡ Some t → SegmentRead s t.0 t.1
unfolding read_segment
segment-from_read s t h =
    let rest = then_parts _ (after_byte semicolon s) t h in let blanks = blanks-trim_start rest.0 in
    let o = optional-from_read (trim_start rest.0) t rest.2 in grind (arith, common_steps)

-- segments to the end of a text
record ParametersRead (s : List ℕ) (ps : List Parameter) : Type 0 where
  pub segments : List Segment
  pub back : List ℕ
  pub text_is : s ≡ segments_text segments ++ back
  pub parameters_are : ps ≡ parameters_of segments
  pub segments_are : All IsSegment segments
  pub back_is : IsBlanks back

-- blanks, and parameters to the end of a text
parameters-from_read : (n : ℕ) (lead s : List ℕ) (ps : List Parameter) → IsBlanks lead → read_segments n s ≡ Some ps
    → ParametersRead (lead ++ s) ps
parameters-from_read n lead [] ps blank h = grind (arith, common_steps, All-nil)
parameters-from_read zero lead (b ∷ s) ps blank h = absurd (cc h)
parameters-from_read (suc n) lead (b ∷ s) ps blank h = let t = then_parts _ (read_segment (b ∷ s)) ps h in
    let qs = map_parts _ (read_segments n t.0.1) ps t.2 in let here = segment-from_read (b ∷ s) t.0 t.1 in
    let later = parameters-from_read n here.lead t.0.1 qs.0 here.lead_is qs.1 in
    let first : Segment = record { before = lead; after = here.after; parameter = t.0.0 } in
    let is_first : IsSegment first = record { before = blank; after = here.after_is; parameter = here.parameter_is } in
    record {
      segments = first ∷ later.segments;
      back = later.back;
      text_is = simp append_assoc (cc);
      parameters_are = sym qs.2 ∙ ap (cons_option t.0.0) later.parameters_are;
      segments_are = All-cons IsSegment first later.segments is_first later.segments_are;
      back_is = later.back_is;
    }

-- type and subtype at the head, with blanks before and after
record EssenceRead (s : List ℕ) (e : List ℕ × List ℕ × List ℕ) : Type 0 where
  pub front : List ℕ
  pub gap : List ℕ
  pub front_is : IsBlanks front
  pub gap_is : IsBlanks gap
  pub top_level_is : IsToken e.0
  pub subtype_is : IsToken e.1
  pub text_is : s ≡ front ++ (e.0 ++ slash ∷ (e.1 ++ (gap ++ e.2)))

essence-from_read : (s : List ℕ) (e : List ℕ × List ℕ × List ℕ) → read_essence s ≡ Some e → EssenceRead s e
unfolding read_essence
essence-from_read s e h = let blanks = blanks-trim_start s in let top = then_parts _ (read_token (trim_start s)) e h in
    let second = then_parts _ (after_byte slash top.0.1) e top.2 in
    let sub = map_parts _ (read_token second.0) e second.2 in let t = token-from_read (trim_start s) top.0 top.1 in
    let u = token-from_read second.0 sub.0 sub.1 in let gap = blanks-trim_start sub.0.1 in
    let after = after_byte-from slash top.0.1 second.0 second.1 in rw (← sub.2) (grind arith)

-- what is read as a media type is one
pub media-from_read : (s : List ℕ) (m : MediaType) → read_media s ≡ Some m → IsMediaType s m
unfolding read_media read_parameters
media-from_read s m h = let e = then_parts _ (read_essence s) m h in
    let ps = map_parts _ (read_parameters e.0.2) m e.2 in let here = essence-from_read s e.0 e.1 in
    grind (arith, parameters-from_read (length e.0.2) here.gap e.0.2 ps.0 here.gap_is ps.1)
