-- Fields under spans.
use Rattle.std.proofs.Common.{◌≡◌, ◌<◌, ℕ, List, [], ◌∷◌, ◌∙◌, ap, refl, map, take, fold, All, Any, inl, inr, subst}
use Rattle.std.proofs.{Common.sym, lemmas.List.{get_or-map, length-map, take-map, Elements.{All-head, All-tail}}}
use Rattle.{std.proofs.lemmas.List.Elements.All-take, bytes.proofs.Ranges.slice_range_front}
use Rattle.httparse.specs.Spans.{IsHeaderWithin, IsWithin, header_bytes, span_bytes}
use Rattle.{httparse.specs.declared.spans.{HeaderSpan.HeaderSpan, Span.Span}, http.specs.declared.error.Error.Error}
use Rattle.http_header.specs.{FieldName.IsFieldName, Token.lowercase, FieldValue.{FieldValue, IsFieldValue}}
use Rattle.http_header.specs.{FieldValue.plain_value, HeaderMap.{Entries, RefusesAppend, append}}
use Rattle.{http1.specs.{Fields.Header, ServerTrace.headers_at}, http1_typed.specs.Parts.{MapError, entry_at, map_at}}
use Rattle.gateway_connection.specs.Content.{IsMapFailure, map_of}
use Rattle.http.specs.declared.error.Error.TheVariants as Mapped

-- a span of the first bytes covers what it covers of all
span_bytes-take : (n : ℕ) (text : List ℕ) (s : Span) → IsWithin n s → span_bytes (take n text) s ≡ span_bytes text s
span_bytes-take n text s within = slice_range_front (take n text) text s.start s.end n refl within.1

header_bytes-take : (n : ℕ) (text : List ℕ) (spans : List HeaderSpan) → All (IsHeaderWithin n) spans
    → map (header_bytes (take n text)) spans ≡ map (header_bytes text) spans
header_bytes-take n text [] all = refl
header_bytes-take n text (h ∷ spans) all = let within = All-head (IsHeaderWithin n) h spans all in
    λ i. (span_bytes-take n text h.name within.0 i, span_bytes-take n text h.value within.1 i) ∷ header_bytes-take
    n text spans (All-tail (IsHeaderWithin n) h spans all) i

fold_at : (text : List ℕ) (spans : List HeaderSpan) (m : Entries FieldValue)
    → fold (λ m h. append m (entry_at text h).0 (entry_at text h).1) m spans
    ≡ fold (λ m h. append m (lowercase h.0) (plain_value h.1)) m (map (header_bytes text) spans)
fold_at text [] m = refl
fold_at text (h ∷ spans) m = fold_at text spans _

-- the map of the spans in the first bytes is that of the fields under them
pub map_at-take : (n : ℕ) (text : List ℕ) (spans : List HeaderSpan) (count : ℕ) → All (IsHeaderWithin n)
    (take count spans) → map_at (take n text) (take count spans) ≡ map_of (headers_at text spans count)
map_at-take n text spans count all =
    fold_at (take n text) (take count spans) [] ∙ ap map_of (header_bytes-take n text (take count spans) all)

-- ---- fields that no map takes

-- an element of which the fact holds, and its image
any_map : {X Y : Type 0} (f : X → Y) (P : Y → Type 0) (xs : List X) → Any (λ x. P (f x)) xs → Any P (map f xs)
any_map f P xs any = (
  any.0,
  f any.1,
  subst (λ (n : ℕ). any.0 < n) (sym (length-map xs f)) any.2,
  get_or-map f xs any.0 any.1 (f any.1) any.2 ∙ ap f any.3,
  any.4,
)

module _ (n : ℕ) (text : List ℕ) (spans : List HeaderSpan) (within : All (IsHeaderWithin n) spans) where
  under : map (header_bytes (take n text)) spans ≡ map (header_bytes text) spans
  under = header_bytes-take n text spans within

  first_map : (count : ℕ) → map_at (take n text) (take count spans)
      ≡ map_of (take count (map (header_bytes text) spans))
  first_map count = fold_at (take n text) (take count spans) [] ∙ ap map_of (header_bytes-take n text (take count spans)
      (All-take (IsHeaderWithin n) count spans within) ∙ sym (take-map (header_bytes text) count spans))

  -- why the fields under the spans have no map
  pub map_fails : (e : Error) → MapError (take n text) spans e → IsMapFailure (map (header_bytes text) spans) e
  map_fails Mapped.HeaderName wrong = inl (subst (λ (hs : List Header). Any (λ h. ¬ (IsFieldName h.0)) hs) under
      (any_map (header_bytes (take n text)) (λ h. ¬ (IsFieldName h.0)) spans wrong))
  map_fails Mapped.HeaderValue wrong = inr (inl (subst (λ (hs : List Header). Any (λ h. ¬ (IsFieldValue h.1)) hs) under
      (any_map (header_bytes (take n text)) (λ h. ¬ (IsFieldValue h.1)) spans wrong)))
  map_fails Mapped.MaxSizeReached wrong = inr (inr (
    wrong.0,
    wrong.1,
    subst (λ (m : Entries FieldValue). RefusesAppend m wrong.1) (first_map wrong.0) wrong.2,
  ))
  map_fails Mapped.OutOfMemory wrong = tt
  map_fails e wrong = absurd wrong
