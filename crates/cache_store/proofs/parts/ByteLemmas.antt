-- What holds of each byte of two parts, at its position, holds of each byte of their combination.
use Rattle.std.proofs.Common.{[], ◌++◌, ◌+◌, ◌-◌, ◌∙◌, ◌∷◌, ◌≡◌, ◌≤◌, ◌⊎◌, drop, length, List, min, suc, take, zero, ℕ}
use Rattle.std.proofs.Common.{ap, arith, inl, inr, length-append, slice_get, Some, subst}
use Rattle.std.{proofs.lemmas.List.{length-drop, length-take, length-take-le}, proofs.lemmas.Option.slice_get_within}
use Rattle.cache_store.{specs.Parts.Answers.{bytes_within, IsWithin}, specs.declared.parts.extent.Extent.Extent}
use Rattle.cache_store.specs.Parts.Extents.{joined, joint, size, Touch}

-- each byte has the property at its position, if the first one is at this position
abbrev pub AllAt : (ℕ → ℕ → Type 0) → ℕ → List ℕ → Type 0
AllAt P first bytes = (i byte : ℕ) → slice_get bytes i ≡ Some byte → P (first + i) byte

-- ---- elements of lists

-- an element of two lists is one of the first or of the second
get-append : (xs ys : List ℕ) (i byte : ℕ) → slice_get (xs ++ ys) i ≡ Some byte
    → (slice_get xs i ≡ Some byte) ⊎ ((j : ℕ) × (i ≡ length xs + j) × (slice_get ys j ≡ Some byte))
get-append [] ys i byte h = inr (i, omega arith, h)
get-append (x ∷ xs) ys zero byte h = inl h
get-append (x ∷ xs) ys (suc i) byte h = elim (get-append xs ys i byte h) [
  | inl a ↦ inl a
  | inr b ↦ inr (b.0, omega (arith, b.1), b.2)
]

get-take : (n : ℕ) (xs : List ℕ) (i byte : ℕ) → slice_get (take n xs) i ≡ Some byte → slice_get xs i ≡ Some byte
get-take zero xs i byte h = absurd (grind (arith, h))
get-take (suc n) [] i byte h = h
get-take (suc n) (x ∷ xs) zero byte h = h
get-take (suc n) (x ∷ xs) (suc i) byte h = get-take n xs i byte h

get-drop : (n : ℕ) (xs : List ℕ) (i byte : ℕ) → slice_get (drop n xs) i ≡ Some byte
    → (j : ℕ) × (j ≡ n + i) × (slice_get xs j ≡ Some byte)
get-drop zero xs i byte h = (i, omega arith, h)
get-drop (suc n) [] i byte h = absurd (grind (arith, h))
get-drop (suc n) (x ∷ xs) i byte h = let on = get-drop n xs i byte h in (suc on.0, omega (arith, on.1), on.2)

-- ---- parts

module _ (P : ℕ → ℕ → Type 0) where
  at : (here there byte : ℕ) → P here byte → here ≡ there → P there byte
  at here there byte p same = subst (λ n. P n byte) same p

  -- the bytes of two parts that touch
  pub all-joined : (one other : Extent) (own new : List ℕ) → one.first ≤ one.last → other.first ≤ other.last
      → length own ≡ size one → length new ≡ size other → Touch one other → AllAt P one.first own
      → AllAt P other.first new → AllAt P (min one.first other.first) (joined one own other new)
  all-joined one other own new in_order also count also_count touch old came i byte h =
      let front = other.first - one.first in
      let back = other.last + 1 - one.first in
      let fits : front ≤ length own = omega (arith, touch.after, count, in_order) in
      let before : length (take front own) ≡ front = length-take-le front own fits in
      elim (get-append (take front own) (new ++ drop back own) i byte h) [
        | inl a ↦
            let within = slice_get_within (take front own) i byte a in
            at (one.first + i) (min one.first other.first + i) byte (old i byte (get-take front own i byte a))
            (omega (arith, within, before))
        | inr b ↦ elim (get-append new (drop back own) b.0 byte b.2) [
          | inl c ↦
              at (other.first + b.0) (min one.first other.first + i) byte (came b.0 byte c) (omega (arith, b.1, before))
          | inr d ↦
              let e = get-drop back own d.0 byte d.2 in
              at (one.first + e.0) (min one.first other.first + i) byte (old e.0 byte e.2)
              (omega (arith, b.1, before, d.1, e.1, also_count, also, touch.before))
        ]
      ]

  -- the bytes of a part within a part
  pub all-within : (outer inner : Extent) (content : List ℕ) → IsWithin outer inner → AllAt P outer.first content
      → AllAt P inner.first (bytes_within outer content inner)
  all-within outer inner content within all i byte h =
      let count = inner.last - outer.first + 1 - (inner.first - outer.first) in
      let a = get-take count (drop (inner.first - outer.first) content) i byte h in
      let b = get-drop (inner.first - outer.first) content i byte a in
      at (outer.first + b.0) (inner.first + i) byte (all b.0 byte b.2) (omega (arith, b.1, within.first))

pub length-joined : (one other : Extent) (own new : List ℕ) → one.first ≤ one.last → other.first ≤ other.last
    → length own ≡ size one → length new ≡ size other → Touch one other
    → length (joined one own other new) ≡ size (joint one other)
length-joined one other own new in_order also count also_count touch = let front = other.first - one.first in
    let back = other.last + 1 - one.first in
    let fits : front ≤ length own = omega (arith, touch.after, count, in_order) in
    let before : length (take front own) ≡ front = length-take-le front own fits in
    let after : length (drop back own) ≡ length own - back = length-drop back own in
    length-append (take front own) (new ++ drop back own) ∙ ap (λ n. length (take front own) + n) (length-append new
    (drop back own)) ∙ omega (arith, before, after, count, also_count, in_order, also, touch.before, touch.after)

-- so many are they
pub length-within : (outer inner : Extent) (content : List ℕ) → IsWithin outer inner → length content ≡ size outer
    → length (bytes_within outer content inner) ≡ size inner
length-within outer inner content within count = let part = drop (inner.first - outer.first) content in
    let rest = length-drop (inner.first - outer.first) content in
    length-take (inner.last - outer.first + 1 - (inner.first - outer.first)) part
    ∙ omega (arith, rest, count, within.ordered, within.first, within.last)
