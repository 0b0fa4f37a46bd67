-- The bytes of parts.
use Rattle.std.proofs.Common.{[], ◌++◌, ◌+◌, ◌-◌, ◌∙◌, ◌≡◌, ◌≤◌, ap, arith, drop, length, List, max, min, sym, take, ℕ}
use Rattle.std.{proofs.Common.{inl, inr, nat_le, true}, proofs.lemmas.Bool.{and_parts, cases_lt}}
use Rattle.std.{proofs.lemmas.Bool.Decides.nat_tests, proofs.Math.ListN.drop_of_length-le, proofs.Math.Seq.take-add}
use Rattle.std.proofs.lemmas.List.{drop-drop, drop-take, length-take, take-take, take_all}
use Rattle.cache_store.{specs.Parts.Answers.{bytes_within, IsWithin}, specs.declared.parts.extent.Extent.Extent}
use Rattle.cache_store.specs.Parts.Extents.{bytes_between, is_whole, IsOf, joined, joint, Touch}

-- the bytes from one position up to another
abbrev pub seg : ℕ → ℕ → List ℕ → List ℕ
seg from to bytes = take (to - from) (drop from bytes)

module _ (bytes : List ℕ) where
  pub seg-append : (a b c : ℕ) → a ≤ b → b ≤ c → seg a b bytes ++ seg b c bytes ≡ seg a c bytes
  seg-append a b c low high = let there : a + (b - a) ≡ b = omega (arith, low) in
      let whole : (b - a) + (c - b) ≡ c - a = omega (arith, low, high) in
      let back = drop-drop (b - a) a bytes ∙ ap (λ n. drop n bytes) there in
      ap (λ l. seg a b bytes ++ take (c - b) l) (sym back)
      ∙ sym (take-add (b - a) (c - b) (drop a bytes)) ∙ ap (λ n. take n (drop a bytes)) whole

  none : (n a : ℕ) → n ≡ 0 → take n (drop a bytes) ≡ []
  none n a e = ap (λ k. take k (drop a bytes)) e

  -- what a segment has before a later position
  pub seg-take : (a b c : ℕ) → c ≤ b → take (c - a) (seg a b bytes) ≡ seg (min a c) c bytes
  seg-take a b c within = elim (cases_lt c a) [
    | inl low ↦
        let empty : c - a ≡ 0 = omega (arith, low) in
        ap (λ k. take k (seg a b bytes)) empty ∙ sym (none (c - min a c) (min a c) (omega (arith, low)))
    | inr high ↦
        let fewer : c - a ≤ b - a = omega (arith, within) in
        let front = take-take (c - a) (b - a) (drop a bytes) fewer in
        let same : min a c ≡ a = omega (arith, high) in
        front ∙ ap (λ k. take (c - k) (drop k bytes)) (sym same)
  ]

  -- what a segment has from a later position on
  pub seg-drop : (a b d : ℕ) → a ≤ d → a ≤ b → drop (d - a) (seg a b bytes) ≡ seg d (max b d) bytes
  seg-drop a b d after ordered = elim (cases_lt d b) [
    | inl low ↦
        let split : b - a ≡ (d - a) + (b - d) = omega (arith, low, after) in
        let same : max b d ≡ b = omega (arith, low) in
        let there : a + (d - a) ≡ d = omega (arith, after) in
        ap (λ k. drop (d - a) (take k (drop a bytes))) split
        ∙ drop-take (d - a) (b - d) (drop a bytes)
        ∙ ap (λ l. take (b - d) l) (drop-drop (d - a) a bytes ∙ ap (λ n. drop n bytes) there)
        ∙ ap (λ k. take (k - d) (drop d bytes)) (sym same)
    | inr high ↦
        let short : length (seg a b bytes) ≤ d - a = rw length-take (omega (arith, high)) in
        drop_of_length-le (seg a b bytes) short ∙ sym (none (max b d - d) d (omega (arith, high)))
  ]

  -- The bytes of two segments that touch are those of the segment of both.
  pub seg-join : (a b c d : ℕ) → a ≤ b → c ≤ d → c ≤ b → a ≤ d
      → take (c - a) (seg a b bytes) ++ (seg c d bytes ++ drop (d - a) (seg a b bytes)) ≡ seg (min a c) (max b d) bytes
  seg-join a b c d one other before after = ap (λ l. l ++ (seg c d bytes ++ drop (d - a) (seg a b bytes)))
      (seg-take a b c before) ∙ ap (λ l. seg (min a c) c bytes ++ (seg c d bytes ++ l)) (seg-drop a b d after one)
      ∙ ap (λ l. seg (min a c) c bytes ++ l) (seg-append c d (max b d) other (omega arith))
      ∙ seg-append (min a c) c (max b d) (omega arith) (omega (arith, other))

module _ (bytes : List ℕ) (one other : Extent) (own new : List ℕ) (is : IsOf bytes one own)
    (also : IsOf bytes other new) (touch : Touch one other) where
  pub joined-is : joined one own other new ≡ bytes_between (min one.first other.first) (max one.last other.last) bytes
  joined-is = let end : max (one.last + 1) (other.last + 1) ≡ max one.last other.last + 1 = omega arith in
      ap (λ l. take (other.first - one.first) l ++ (new ++ drop (other.last + 1 - one.first) l)) is.same
      ∙ ap (λ l. take (other.first - one.first) (seg one.first
      (one.last + 1) bytes) ++ (l ++ drop (other.last + 1 - one.first) (seg one.first (one.last + 1) bytes))) also.same
      ∙ seg-join bytes one.first (one.last + 1) other.first (other.last + 1) (omega (arith, is.ordered))
      (omega (arith, also.ordered)) touch.after touch.before ∙ ap (λ k. seg (min one.first other.first) k bytes) end

  pub joined-is-of : IsOf bytes (joint one other) (joined one own other new)
  joined-is-of = record {
    ordered = omega (arith, is.ordered, also.ordered);
    within = omega (arith, is.within, also.within, is.whole, also.whole);
    whole = is.whole;
    same = joined-is;
  }

pub joined-order : (bytes : List ℕ) (one other : Extent) (own new : List ℕ) → IsOf bytes one own
    → IsOf bytes other new → Touch one other → joined one own other new ≡ joined other new one own
joined-order bytes one other own new is also touch =
    let back : Touch other one = record { before = touch.after; after = touch.before } in
    let low : min one.first other.first ≡ min other.first one.first = omega arith in
    let high : max one.last other.last ≡ max other.last one.last = omega arith in
    joined-is bytes one other own new is also touch ∙ ap (λ k. bytes_between k (max one.last other.last) bytes) low ∙ ap
    (λ k. bytes_between (min other.first one.first) k bytes) high ∙ sym (joined-is bytes other one new own also is back)

-- a part's bytes are those that the representation has there
pub part-once : (bytes : List ℕ) (one other : Extent) (own new : List ℕ) → IsOf bytes one own → IsOf bytes other new
    → one.first ≡ other.first → one.last ≡ other.last → own ≡ new
part-once bytes one other own new is also first last = is.same
    ∙ ap (λ k. bytes_between k one.last bytes) first ∙ ap (λ k. bytes_between other.first k bytes) last ∙ sym also.same

-- parts that touch, of which the last two do
pub joined_group : (bytes : List ℕ) (a b c : Extent) (x y z : List ℕ) → IsOf bytes a x → IsOf bytes b y → IsOf bytes c z
    → Touch a b → Touch b c → joined (joint a b) (joined a x b y) c z ≡ joined a x (joint b c) (joined b y c z)
joined_group bytes a b c x y z one two three early late = let left = joined-is-of bytes a b x y one two early in
    let right = joined-is-of bytes b c y z two three late in
    let left_touch : Touch
    (joint a b) c = record { before = omega (arith, late.before); after = omega (arith, late.after) } in
    let right_touch : Touch a
    (joint b c) = record { before = omega (arith, early.before); after = omega (arith, early.after) } in
    part-once bytes (joint (joint a b) c) (joint a (joint b c)) (joined (joint a b) (joined a x b y) c z) (joined a x
    (joint b c) (joined b y c z)) (joined-is-of bytes (joint a b) c (joined a x b y) z left three left_touch)
    (joined-is-of bytes a (joint b c) x (joined b y c z) one right right_touch) (omega arith) (omega arith)

-- the whole
pub whole_is : (bytes : List ℕ) (extent : Extent) (own : List ℕ) → IsOf bytes extent own → is_whole extent ≡ true
    → own ≡ bytes
whole_is bytes extent own is whole =
    let all = and_parts (nat_le extent.first 0) (nat_le extent.len (extent.last + 1)) whole in
    let start : extent.first ≡ 0 = grind (arith, all.0, nat_tests) in
    let all_of : extent.last + 1 - 0 ≡ extent.last + 1 = omega arith in
    let end : length bytes ≤ extent.last + 1 = grind (arith, all.1, nat_tests, is.whole) in
    is.same ∙ ap (λ k. take (extent.last + 1 - k) (drop k bytes)) start
    ∙ ap (λ k. take k bytes) all_of ∙ take_all (extent.last + 1) bytes end

-- a part within a part
pub within_is : (bytes : List ℕ) (outer inner : Extent) (content : List ℕ) → IsOf bytes outer content
    → IsWithin outer inner → IsOf bytes inner (bytes_within outer content inner)
within_is bytes outer inner content is within = record {
  ordered = within.ordered;
  within = omega (arith, within.last, is.within, within.len);
  whole = within.len ∙ is.whole;
  same = inner-same;
}
  where
    inner-same : bytes_within outer content inner ≡ bytes_between inner.first inner.last bytes
    inner-same = let size : inner.last - outer.first + 1
        - (inner.first - outer.first) ≡ inner.last + 1 - inner.first = omega (arith, within.ordered, within.first) in
        let split : outer.last + 1 - outer.first ≡ (inner.first - outer.first) + (outer.last + 1 - inner.first) = omega
        (arith, within.ordered, within.first, within.last, is.ordered) in
        let there : outer.first + (inner.first - outer.first) ≡ inner.first = omega (arith, within.first) in
        let fewer : inner.last + 1 - inner.first ≤ outer.last + 1 - inner.first = omega (arith, within.last) in
        ap (λ k. take k (drop (inner.first - outer.first) content)) size ∙ ap (λ l. take (inner.last + 1 - inner.first)
        (drop (inner.first - outer.first) l)) is.same ∙ ap (λ k. take (inner.last + 1 - inner.first)
        (drop (inner.first - outer.first) (take k (drop outer.first bytes)))) split ∙ ap (λ l. take
        (inner.last + 1 - inner.first) l) (drop-take (inner.first - outer.first) (outer.last + 1 - inner.first)
        (drop outer.first bytes)) ∙ take-take (inner.last + 1 - inner.first) (outer.last + 1 - inner.first) (drop
        (inner.first - outer.first) (drop outer.first bytes)) fewer ∙ ap (λ l. take (inner.last + 1 - inner.first) l)
        (drop-drop (inner.first - outer.first) outer.first bytes ∙ ap (λ k. drop k bytes) there)
