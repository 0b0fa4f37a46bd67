-- The laws of the header `origin`: a text parses as at most one URI, and an origin survives a round trip.
use Rattle.std.specs.Prelude.{◌≡◌, ℕ, suc, ◌+◌, ◌<◌, Bool, true, false, not, List, [], ◌∷◌, ◌++◌, length, Option, Some}
use Rattle.std.{specs.Prelude.{None, codes, bytes_eq, IsTrue, slice_index, refl}, specs.List.{prefix_len, list_all}}
use Rattle.std.{specs.Char.to_ascii_lowercase, proofs.Common.{sym, ◌∙◌, ap, subst, arith, inl, inr, append_assoc}}
use Rattle.std.{proofs.Common.{append-nil, length-append, lit≤, ⊎_elim}, proofs.lemmas.Bool.{cases_Bool, and_parts}}
use Rattle.std.{proofs.lemmas.Bool.false≢true, proofs.lemmas.Bool.Decides.nat_tests}
use Rattle.std.{proofs.lemmas.Slice.Eq.bytes_eq-Decides, proofs.lemmas.List.length-map}
use Rattle.std.{proofs.lemmas.List.Folds.list_all-append, proofs.lemmas.List.Sums.AllPass-from_list_all}
use Rattle.std.proofs.lemmas.List.Sums.{list_all-from_AllPass}
use Rattle.http_uri.specs.ByteClasses.{lowercase, is_scheme_byte, is_authority_byte, is_delimiter, slash}
use Rattle.http_uri.specs.Grammar.{IsScheme, IsAuthority, IsTail, IsAbsoluteForm, IsUriText, StartsOrigin}
use Rattle.http_uri.specs.Grammar.{normal_scheme}
use Rattle.headers_syntax.{specs.Lines.{Line, only_line}, specs.HeaderLaws.HeaderLaws}
use Rattle.headers_hosts.{specs.OneLine.{Same, line_laws}, specs.Origin.{IsOriginUri, IsKindLine, IsOriginLine}}
use Rattle.headers_hosts.specs.Origin.{tuple_text, kind_text, origin_text, origin_reads, origin_writes}
use Rattle.headers_hosts.{specs.declared.origin.Origin.Origin, specs.declared.origin.OriginOrNull.OriginOrNull}
use Rattle.headers_hosts.specs.declared.origin.OriginOrNull.TheVariants.{Tuple, Null}

-- a list is cut in one way into bytes that pass a test and a rest that begins with none
cut_once : (p : ℕ → Bool) (xs ys r s : List ℕ) → list_all p xs ≡ true → list_all p ys ≡ true → prefix_len p r ≡ 0
    → prefix_len p s ≡ 0 → xs ++ r ≡ ys ++ s → (xs ≡ ys) × (r ≡ s)
cut_once p [] [] r s a b c d e = (refl, e)
cut_once p [] (y ∷ ys) r s a b c d e =
    let passes = (and_parts (p y) (list_all p ys) b).0 in
    let none : prefix_len p (y ∷ (ys ++ s)) ≡ 0 = ap (prefix_len p) (sym e) ∙ c in
    let some : 1 + prefix_len p (ys ++ s) ≡ 0 = rw passes at none in
    absurd (omega (arith, some))
cut_once p (x ∷ xs) [] r s a b c d e =
    let passes = (and_parts (p x) (list_all p xs) a).0 in
    let none : prefix_len p (x ∷ (xs ++ r)) ≡ 0 = ap (prefix_len p) e ∙ d in
    let some : 1 + prefix_len p (xs ++ r) ≡ 0 = rw passes at none in
    absurd (omega (arith, some))
cut_once p (x ∷ xs) (y ∷ ys) r s a b c d e =
    let head : x ≡ y = cc e in
    let tail : xs ++ r ≡ ys ++ s = cc e in
    let later = cut_once p xs ys r s (and_parts (p x) (list_all p xs) a).1
    (and_parts (p y) (list_all p ys) b).1 c d tail in
    let whole : x ∷ xs ≡ y ∷ ys = let more = later.0 in cc in
    (whole, later.1)

is_inside : ℕ → Bool
is_inside b = not (is_delimiter b)

-- a byte of an authority does not end it
authority_byte : (b : ℕ) → IsTrue (is_authority_byte b) → is_inside b ≡ true
unfolding is_inside
authority_byte b h = grind (arith, nat_tests)

-- a test that each byte passes
pub all_by_index : (p : ℕ → Bool) (s : List ℕ) → ((i : ℕ) → i < length s → p (slice_index s i) ≡ true)
    → list_all p s ≡ true
all_by_index p [] h = refl
all_by_index p (b ∷ bs) h = rw (h 0 (omega arith)) (all_by_index p bs (λ i l. h (suc i) (omega (arith, l))))

authority_inside : (a : List ℕ) → IsAuthority a → list_all is_inside a ≡ true
authority_inside a h = all_by_index is_inside a (λ i l. authority_byte _ (h.bytes i l).byte)

tail_stops : (tail kept : List ℕ) → IsTail tail kept → prefix_len is_inside tail ≡ 0
unfolding is_inside
tail_stops [] kept h = refl
tail_stops (b ∷ bs) kept h =
    ⊎_elim (λ x. let none = x.0 in absurd (cc none)) (λ x. let stop : is_delimiter b ≡ true = x.0 in rw stop refl) h

-- and the stored text is one
tail_once : (tail kept kept' : List ℕ) → IsTail tail kept → IsTail tail kept' → kept ≡ kept'
tail_once [] kept kept' h k =
    ⊎_elim (λ x. ⊎_elim (λ y. x.1 ∙ sym y.1) (λ y. let f = y.0 in absurd (cc f)) k)
    (λ x. let f = x.0 in absurd (cc f)) h
tail_once (b ∷ bs) kept kept' h k =
    ⊎_elim (λ x. let none = x.0 in absurd (cc none))
    (λ x. ⊎_elim (λ y. let none = y.0 in absurd (cc none)) (λ y. x.2 ∙ sym y.2) k) h

-- a text of absolute form, cut after its scheme
spelled_cut : (name authority tail : List ℕ)
    → name ++ codes "://" ++ authority ++ tail ≡ name ++ (58 ∷ 47 ∷ 47 ∷ (authority ++ tail))
spelled_cut name authority tail =
    append_assoc (name ++ codes "://") authority tail ∙ append_assoc name (codes "://") (authority ++ tail)

absolute_once : (text s a k s' a' k' : List ℕ) → IsAbsoluteForm text s a k → IsAbsoluteForm text s' a' k'
    → (s ≡ s') × (a ≡ a') × (k ≡ k')
absolute_once text s a k s' a' k' h g =
    let e : h.name ++ (58 ∷ 47 ∷ 47 ∷ (a ++ h.tail)) ≡ g.name ++ (58 ∷ 47 ∷ 47 ∷ (a' ++ g.tail)) =
    sym (spelled_cut h.name a h.tail) ∙ sym h.spelled ∙ g.spelled ∙ spelled_cut g.name a' g.tail in
    let first = cut_once is_scheme_byte h.name g.name _ _
    (list_all-from_AllPass is_scheme_byte h.name h.is_scheme.0)
    (list_all-from_AllPass is_scheme_byte g.name g.is_scheme.0) refl refl e in
    let rest : a ++ h.tail ≡ a' ++ g.tail = let f = first.1 in cc in
    let second = cut_once is_inside a a' h.tail g.tail (authority_inside a h.is_authority)
    (authority_inside a' g.is_authority) (tail_stops h.tail k h.is_tail) (tail_stops g.tail k' g.is_tail) rest in (
      h.normal ∙ ap normal_scheme first.0 ∙ sym g.normal,
      second.0,
      tail_once g.tail k k'
          (subst (λ (t : List ℕ). IsTail t k) second.1 h.is_tail) g.is_tail,
    )

slash_no_scheme : is_scheme_byte 47 ≡ false
slash_no_scheme = refl

slash_no_inside : is_inside 47 ≡ false
unfolding is_inside
slash_no_inside = refl

-- a text of absolute form does not begin with a slash, has more than one byte, and a slash
starts_no_slash : (name rest : List ℕ) → list_all is_scheme_byte name ≡ true
    → slice_index (name ++ (58 ∷ rest)) 0 ≡ slash → ⊥
starts_no_slash [] rest h e = absurd (omega (arith, e))
starts_no_slash (b ∷ bs) rest h e =
    let passes = (and_parts (is_scheme_byte b) (list_all is_scheme_byte bs) h).0 in
    false≢true (sym slash_no_scheme ∙ ap is_scheme_byte (sym e) ∙ passes)

absolute_start : (text s a k : List ℕ) → IsAbsoluteForm text s a k → ¬ (StartsOrigin text)
absolute_start text s a k h start =
    let e = h.spelled ∙ spelled_cut h.name a h.tail in
    ⊎_elim
    (λ x.
    let one : length text ≡ 1 = ap length x in
    let more = length-append h.name (58 ∷ 47 ∷ 47 ∷ (a ++ h.tail)) in
    let same = ap length e in
    absurd (omega (arith, one, more, same)))
    (λ x. starts_no_slash h.name (47 ∷ 47 ∷ (a ++ h.tail))
    (list_all-from_AllPass is_scheme_byte h.name h.is_scheme.0) (ap (λ (t : List ℕ). slice_index t 0) (sym e) ∙ x))
    start

-- no text of absolute form is inside an authority alone
absolute_not_inside : (text s a k : List ℕ) → IsAbsoluteForm text s a k → list_all is_inside text ≡ true → ⊥
absolute_not_inside text s a k h all =
    let rest = a ++ h.tail in
    let cut : list_all is_inside (h.name ++ (58 ∷ 47 ∷ 47 ∷ rest)) ≡ true =
    ap (list_all is_inside) (sym (h.spelled ∙ spelled_cut h.name a h.tail)) ∙ all in
    let back = (and_parts (list_all is_inside h.name) (list_all is_inside (58 ∷ 47 ∷ 47 ∷ rest))
    (sym (list_all-append is_inside h.name (58 ∷ 47 ∷ 47 ∷ rest)) ∙ cut)).1 in
    let after = (and_parts (is_inside 58) (list_all is_inside (47 ∷ 47 ∷ rest)) back).1 in
    false≢true (sym slash_no_inside ∙ (and_parts (is_inside 47) (list_all is_inside (47 ∷ rest)) after).0)

absolute_no_authority : (text s a k : List ℕ) → IsAbsoluteForm text s a k → ¬ (IsAuthority text)
absolute_no_authority text s a k h i = absolute_not_inside text s a k h (authority_inside text i)

-- a text that spells an absolute URI spells that one alone
pub uri_once : (text : List ℕ) (scheme authority : Option (List ℕ)) (kept s a k : List ℕ)
    → IsUriText text scheme authority kept → IsUriText text (Some s) (Some a) k
    → (scheme ≡ Some s) × (authority ≡ Some a) × (kept ≡ k)
uri_once text None None kept s a k h g = absurd (absolute_start text s a k g.1 h.1.0.0)
uri_once text None (Some authority) kept s a k h g = absurd (absolute_no_authority text s a k g.1 h.1.0)
uri_once text (Some scheme) None kept s a k h g = absurd (h.1)
uri_once text (Some scheme) (Some authority) kept s a k h g =
    let same = absolute_once text scheme authority kept s a k h.1 g.1 in
    (ap (λ (x : List ℕ). Some x) same.0, ap (λ (x : List ℕ). Some x) same.1, same.2)

null_inside : list_all is_inside (codes "null") ≡ true
unfolding is_inside
null_inside = refl

-- `null` has no slash
null_no_uri : (line s a : List ℕ) → line ≡ codes "null" → IsOriginUri line s a → ⊥
null_no_uri line s a e h = absolute_not_inside line s a h.0 h.1.1 (ap (list_all is_inside) e ∙ null_inside)

-- A scheme as a URI stores it: as long as the scheme in the text, a scheme itself, and stored as it is when it is
-- parsed again.
pub record IsKept (name kept : List ℕ) : Type 0 where
  pub size : length kept ≡ length name
  pub is_scheme : IsScheme kept
  pub again : kept ≡ normal_scheme kept

lowercase_length : (text word : List ℕ) → bytes_eq (lowercase text) word ≡ true → length word ≡ length text
lowercase_length text word t =
    ap length (sym ((bytes_eq-Decides (lowercase text) word).0 t)) ∙ length-map text to_ascii_lowercase

normal_kept : (name : List ℕ) → IsScheme name → IsKept name (normal_scheme name)
normal_kept name h =
    elim (cases_Bool (bytes_eq (lowercase name) (codes "http"))) [
      | inl t ↦
          let e : normal_scheme name ≡ codes "http" = rw t refl in
          subst (IsKept name) (sym e) (record {
            size = lowercase_length name (codes "http") t;
            is_scheme =
                (AllPass-from_list_all is_scheme_byte (codes "http") refl, lit≤ tt);
            again = refl;
          })
      | inr f ↦ elim (cases_Bool (bytes_eq (lowercase name) (codes "https"))) [
        | inl t ↦
            let e : normal_scheme name ≡ codes "https" = rw (f, t) refl in
            subst (IsKept name) (sym e) (record {
              size = lowercase_length name (codes "https") t;
              is_scheme =
                  (AllPass-from_list_all is_scheme_byte (codes "https") refl, lit≤ tt);
              again = refl;
            })
        | inr g ↦
            let e : normal_scheme name ≡ name = rw (f, g) refl in
            subst (IsKept name) (sym e) (record { size = refl; is_scheme = h; again = sym e })
      ]
    ]

kind_once : (line : Line) (v w : OriginOrNull) → IsKindLine line v → IsKindLine line w → v ≡ w
kind_once line Null Null h k = refl
kind_once line Null (Tuple s a) h k = absurd (null_no_uri line s a h k)
kind_once line (Tuple s a) Null h k = absurd (null_no_uri line s a k h)
kind_once line (Tuple s a) (Tuple s' a') h k =
    let same = uri_once line (Some s) (Some a) h.0 s' a' k.0 h.1 k.1 in
    let scheme : s ≡ s' = let e = same.0 in cc in
    let authority : a ≡ a' = let e = same.1 in cc in
    ap (λ (x : List ℕ). Tuple x a) scheme ∙ ap (λ (x : List ℕ). Tuple s' x) authority

-- a field line is at most one origin, and the encoding of an origin is that origin
pub origin_once : (line : Line) (v w : Origin) → IsOriginLine line v → IsOriginLine line w → v ≡ w
origin_once line v w h k = ap (λ (kind : OriginOrNull). let origin : Origin = record { kind = kind } in origin)
    (kind_once line v.kind w.kind h k)

tuple_back : (line s a : List ℕ) → IsOriginUri line s a → IsOriginUri (tuple_text s a) s a
tuple_back line s a h =
    let form = h.1.1 in
    let kept : IsKept form.name s = subst (IsKept form.name) (sym form.normal)
    (normal_kept form.name form.is_scheme) in
    let size = kept.size in
    let long = h.1.0 in
    let spelled = simp length-append at (ap length form.spelled) in
    let short = length-append (s ++ codes "://") a in
    let shorter = length-append s (codes "://") in (
      codes "/",
      (
        omega (arith, spelled, short, shorter),
        record {
          name = s;
          tail = [];
          spelled = sym (append-nil (tuple_text s a));
          is_scheme = kept.is_scheme;
          normal = kept.again;
          is_authority = form.is_authority;
          is_tail = inl (refl, refl);
        },
      ),
      refl,
      refl,
    )

kind_back : (line : Line) (v : OriginOrNull) → IsKindLine line v → IsKindLine (kind_text v) v
kind_back line Null h = refl
kind_back line (Tuple s a) h = tuple_back line s a h

pub origin_back : (line : Line) (v : Origin) → IsOriginLine line v → IsOriginLine (origin_text v) v
origin_back line v h = kind_back line v.kind h

pub origin_laws : HeaderLaws Same origin_reads origin_writes
origin_laws = line_laws only_line IsOriginLine origin_text (λ line. refl) origin_once origin_back
