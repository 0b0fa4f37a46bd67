-- A content range survives a round trip exactly if its positions are in order.
use Rattle.std.specs.Prelude.{◌≡◌, ℕ, ◌<◌, ◌^◌, ◌++◌, Bool, true, false, not, ◌==◌, nat_le, ◌∷◌, Option, Some, None}
use Rattle.std.{specs.Prelude.{option_map, codes, decimal, bytes_eq, if◌then◌else◌, refl}, proofs.Common.{inl, inr, ap}}
use Rattle.std.{proofs.Common.{◌∙◌, subst, cond}, specs.List.list_all, specs.Option.{option_and_then, option_zip}}
use Rattle.std.{proofs.lemmas.Bool.{cases_Bool, and_from, false_from_ne_true}, proofs.lemmas.List.Folds.list_all-append}
use Rattle.std.proofs.lemmas.Slice.Eq.{bytes_eq-Decides}
use Rattle.headers_syntax.{specs.HeaderLaws.{HeaderLaws, SameBy, ReadsBy, written_by}, specs.Lines.{Line, first_line}}
use Rattle.headers_syntax.{specs.Number.number, specs.Text.is_text, proofs.NumberLemmas.{number-decimal, number-lt}}
use Rattle.headers_syntax.{proofs.OptionLemmas.{map_parts, then_parts}, proofs.TextLemmas.list_all-both}
use Rattle.headers_syntax.proofs.ShapeLemmas.{ReadsBackLine, one_line_laws}
use Rattle.http_header.specs.Token.{is_visible_or_blank}
use Rattle.headers_ranges.specs.ContentBytes.{ContentBytes, FitsOption, FitsContent, of_parts, star, in_order, numbers}
use Rattle.headers_ranges.specs.ContentBytes.{positions, read_or_star, sized, in_bytes, content_bytes, range_shown}
use Rattle.headers_ranges.specs.ContentBytes.{length_shown, content_text, is_ordered}
use Rattle.headers_ranges.{specs.ContentRange.content_range_grammar, specs.Cut.cut, specs.CutLaws.{Lacks, cut_joined}}
use Rattle.headers_ranges.specs.PrintedLaws.{decimal_text, decimal_lacks}

-- ---- the encoding is decoded

-- what has no star in it isn't the star
no_star : (s : Line) → Lacks 42 s → bytes_eq s star ≡ false
no_star s lacks =
    false_from_ne_true (bytes_eq s star)
    (λ e. let same : s ≡ star = (bytes_eq-Decides s star).0 e in
    let no : false ≡ true = subst (λ (t : Line). list_all (λ b. not (b == 42)) t ≡ true) same lacks in absurd (cc no))

range_lacks : (a b c : ℕ) → a < 2 ^ 64 → b < 2 ^ 64 → (45 == c) ≡ false → Lacks c (decimal a) → Lacks c (decimal b)
    → Lacks c (decimal a ++ 45 ∷ decimal b)
range_lacks a b c f g other x y =
    list_all-append (λ d. not (d == c)) (decimal a) (45 ∷ decimal b) ∙ and_from _ _ x (and_from _ _ (ap not other) y)

-- a range decodes to itself, if it is in order
read_range : (range : Option (ℕ × ℕ)) → ((r : ℕ × ℕ) → range ≡ Some r → r.0 < 2 ^ 64)
    → ((r : ℕ × ℕ) → range ≡ Some r → r.1 < 2 ^ 64)
    → read_or_star positions (range_shown range) ≡ (if is_ordered (of_parts (range, None)) then Some range else None)
read_range None f g = refl
read_range (Some r) f g =
    let a = f r refl in
    let b = g r refl in
    let other = no_star (decimal r.0 ++ 45 ∷ decimal r.1)
    (range_lacks r.0 r.1 42 a b refl (decimal_lacks r.0 42 a refl) (decimal_lacks r.1 42 b refl)) in
    rw (
      other,
      cut_joined 45 (decimal r.0) (decimal r.1)
          (decimal_lacks r.0 45 a refl),
      number-decimal r.0 a,
      number-decimal r.1 b,
    )
    (elim (cases_Bool (nat_le r.0 r.1)) [ inl y ↦ rw y refl | inr n ↦ rw n refl ])

read_length : (length : Option ℕ) → FitsOption length → read_or_star number (length_shown length) ≡ Some length
read_length None f = refl
read_length (Some n) f = rw (
  no_star (decimal n)
      (decimal_lacks n 42 (f n refl) refl),
  number-decimal n (f n refl),
) refl

range_plain : (range : Option (ℕ × ℕ)) → ((r : ℕ × ℕ) → range ≡ Some r → r.0 < 2 ^ 64)
    → ((r : ℕ × ℕ) → range ≡ Some r → r.1 < 2 ^ 64)
    → (is_text (range_shown range) ≡ true) × Lacks 47 (range_shown range)
range_plain None f g = (refl, refl)
range_plain (Some r) f g =
    let a = f r refl in
    let b = g r refl in (
      list_all-both is_visible_or_blank (decimal r.0) (45 ∷ decimal r.1) (decimal_text r.0 a)
          (decimal_text r.1 b),
      range_lacks r.0 r.1 47 a b refl (decimal_lacks r.0 47 a refl)
          (decimal_lacks r.1 47 b refl),
    )

length_plain : (length : Option ℕ) → FitsOption length → is_text (length_shown length) ≡ true
length_plain None f = refl
length_plain (Some n) f = decimal_text n (f n refl)

-- the encoding of a content range is text
pub content_plain : (v : ContentBytes) → FitsContent v → is_text (content_text v) ≡ true
unfolding content_text
content_plain v h =
    list_all-both is_visible_or_blank (range_shown v.range) (47 ∷ length_shown v.length)
    (range_plain v.range h.first h.last).0 (length_plain v.length h.whole)

parts_read : (range : Option (ℕ × ℕ)) (length : Option ℕ)
    → option_map of_parts (option_zip (if is_ordered (of_parts (range, None)) then Some range else None)
    (Some length)) ≡ (if is_ordered (of_parts (range, length)) then Some (of_parts (range, length)) else None)
parts_read range length =
    elim (cases_Bool (is_ordered (of_parts (range, length)))) [ inl y ↦ rw y refl | inr n ↦ rw n refl ]

-- the encoding decodes to the value if its positions are in order, else to nothing
pub content_read : (v : ContentBytes) → FitsContent v
    → content_bytes (content_text v) ≡ (if is_ordered v then Some v else None)
unfolding content_bytes content_text
content_read v h =
    let range = range_shown v.range in
    let length = length_shown v.length in
    ap (λ b. cond b (option_and_then in_bytes (cut 32 (codes "bytes " ++ (range ++ 47 ∷ length)))) None)
    (content_plain v h)
    ∙ ap (option_and_then in_bytes) (cut_joined 32 (codes "bytes") (range ++ 47 ∷ length) refl)
    ∙ ap (option_and_then sized) (cut_joined 47 range length (range_plain v.range h.first h.last).1)
    ∙ ap (λ o. option_map of_parts (option_zip o (read_or_star number length))) (read_range v.range h.first h.last)
    ∙ ap (λ o. option_map of_parts (option_zip (cond (is_ordered (of_parts (v.range, None)))
    (Some v.range) None) o)) (read_length v.length h.whole)
    ∙ parts_read v.range v.length

-- ---- a decoded value is in order

from_if : {A : Type 0} (b : Bool) (o : Option A) (a : A) → (if b then o else None) ≡ Some a
    → (b ≡ true) × (o ≡ Some a)
from_if true o a e = (refl, e)
from_if false o a e = absurd (cc e)

from_zip : {A B : Type 0} (o : Option A) (p : Option B) (x : A × B) → option_zip o p ≡ Some x
    → (o ≡ Some x.0) × (p ≡ Some x.1)
from_zip None p x e = absurd (cc e)
from_zip (Some a) None x e = absurd (cc e)
from_zip (Some a) (Some b) x e =
    let same : (a, b) ≡ x = cc e in (ap (λ (y : _ × _). Some y.0) same, ap (λ (y : _ × _). Some y.1) same)

from_star : {A : Type 0} (read : Line → Option A) (text : Line) (o : Option A) → read_or_star read text ≡ Some o
    → (a : A) → o ≡ Some a → read text ≡ Some a
from_star read text o e a h =
    elim (cases_Bool (bytes_eq text star)) [
      | inl y ↦ let none : Some None ≡ Some o = rw y at e in absurd (cc (none, h))
      | inr n ↦ let some : option_map Some (read text)
          ≡ Some o = rw n at e in let m = map_parts Some (read text) o some in m.1 ∙ m.2 ∙ h
    ]

-- what two positions are
record AreInOrder (r : ℕ × ℕ) : Type 0 where
  first : r.0 < 2 ^ 64
  last : r.1 < 2 ^ 64
  order : nat_le r.0 r.1 ≡ true

positions_fit : (text : Line) (r : ℕ × ℕ) → positions text ≡ Some r → AreInOrder r
positions_fit text r e =
    let parts = then_parts numbers (cut 45 text) r e in
    let pair = then_parts in_order (option_zip (number parts.0.0) (number parts.0.1)) r parts.2 in
    let both = from_zip (number parts.0.0) (number parts.0.1) pair.0 pair.1 in
    let order = from_if (nat_le pair.0.0 pair.0.1) (Some pair.0) r pair.2 in
    let same : pair.0 ≡ r = cc order.1 in
    subst AreInOrder same (record {
      first = number-lt parts.0.0 pair.0.0 both.0;
      last = number-lt parts.0.1 pair.0.1
          both.1;
      order = order.0;
    })

ordered_if : (range : Option (ℕ × ℕ)) → ((r : ℕ × ℕ) → range ≡ Some r → AreInOrder r)
    → is_ordered (of_parts (range, None)) ≡ true
ordered_if None h = refl
ordered_if (Some r) h = (h r refl).order

content_fits : (line : Line) (v : ContentBytes) → content_bytes line ≡ Some v → FitsContent v × (is_ordered v ≡ true)
unfolding content_bytes
content_fits line v e =
    let text = from_if (is_text line) (option_and_then in_bytes (cut 32 line)) v e in
    let unit = then_parts in_bytes (cut 32 line) v text.1 in
    let rest = from_if (bytes_eq unit.0.0 (codes "bytes")) (option_and_then sized (cut 47 unit.0.1)) v unit.2 in
    let parts = then_parts sized (cut 47 unit.0.1) v rest.1 in
    let kept = map_parts of_parts (option_zip (read_or_star positions parts.0.0)
    (read_or_star number parts.0.1)) v parts.2 in
    let both = from_zip (read_or_star positions parts.0.0) (read_or_star number parts.0.1) kept.0 kept.1 in
    let order : (r : ℕ × ℕ) → kept.0.0 ≡ Some r
    → AreInOrder r = λ r h. positions_fit parts.0.0 r (from_star positions parts.0.0 kept.0.0 both.0 r h) in
    let P : ContentBytes → Type 0 = λ w. FitsContent w × (is_ordered w ≡ true) in
    subst P {x = of_parts kept.0} kept.2 (
      record {
        first = λ r h. (order r h).first;
        last = λ r h.
            (order r h).last;
        whole = λ n h. number-lt parts.0.1 n (from_star number parts.0.1 kept.0.1 both.1 n h);
      },
      ordered_if kept.0.0 order,
    )

content_back : ReadsBackLine content_bytes content_text
content_back line v e =
    let h = content_fits line v e in content_read v h.0 ∙ ap (λ b. cond b (Some v) None) h.1

pub content_range_laws : HeaderLaws (SameBy content_range_grammar) (ReadsBy content_range_grammar)
    (written_by content_range_grammar)
content_range_laws = one_line_laws content_range_grammar.kept first_line content_bytes content_text
    (λ line. refl) content_back
