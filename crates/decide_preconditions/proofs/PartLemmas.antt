-- Parts that are in order, joined where they overlap or are close.
use Rattle.std.proofs.Common.{◌≡◌, ℕ, suc, ◌+◌, ◌≤◌, ◌↔◌, nat_le, List, [], ◌∷◌, length, refl, sym, subst, arith, inl}
use Rattle.std.proofs.{Common.{inr, ◌⊎◌, ⊎_elim, All, Any, sum_by}, lemmas.Bool.{cases_Bool, cases_lt, leb-true}}
use Rattle.std.proofs.lemmas.{Bool.leb-false, List.{Elements.{All-cons, All-head, All-tail}, Sums.sum_by-cons}}
use Rattle.std.proofs.lemmas.List.Sorted.{All-permutation, Contains-permutation, IsPermutation-sym, IsPermutation-refl}
use Rattle.std.proofs.lemmas.List.Sorted.{IsPermutation-cons, IsPermutation-trans, IsPermutation-insert}
use Rattle.std.specs.{Prelude.{Bool, ⊤, if◌then◌else◌}, Bool.MatchBool, List.Retain.{DedupsFrom, IsDeduped}}
use Rattle.{std.specs.List.Sorted.{IsPermutation, IsNonDecreasingBy}, headers.proofs.RangeLemmas.{any_cases, any_here}}
use Rattle.{headers.proofs.RangeLemmas.any_later, decide_preconditions.specs.Merged.{joined, merged, merged_from}}
use Rattle.decide_preconditions.specs.Parts.{AreCoalesced, Holds, IsJoined, IsPartOf, part_size}
use Rattle.decide_preconditions.specs.declared.part.Part.{Part}

-- ---- parts that are joined in place

-- What `dedup_by` leaves, if each call tells whether the next part is close, and then joins it.
module _ {F : Type 0} (R : F → Part → Part → Bool → F → Part → Part → Type 0) (gap : ℕ) (f : F)
    (h : (next part : Part) (b : Bool) (f' : F) (next' part' : Part) → R f next part b f' next' part'
    → (b ≡ nat_le next.first (part.last + gap + 1)) × (f' ≡ f) × (next' ≡ next)
    × (part' ≡ (if b then joined part next else part))) where
  abbrev IsMergedAfter : List Part → Type 0
  IsMergedAfter rest =
      (g : F) (part : Part) (ys : List Part) → g ≡ f → DedupsFrom R g part rest ys → ys ≡ merged_from gap part rest

  merged_by_answer : (b : Bool) (f' : F) (next part next' part' : Part) (rest ys : List Part) → IsMergedAfter rest
      → b ≡ nat_le next.first (part.last + gap + 1) → f' ≡ f → next' ≡ next
      → part' ≡ (if b then joined part next else part) → MatchBool b (DedupsFrom R f' part' rest ys)
      ((zs : List Part) × DedupsFrom R f' next' rest zs × (ys ≡ part' ∷ zs)) → ys ≡ merged_from gap part (next ∷ rest)
  merged_by_answer b f' next part next' part' rest ys more close same kept left told = grind arith

  merged_after : (rest : List Part) → IsMergedAfter rest
  merged_after [] g part ys e told = told
  merged_after (next ∷ rest) g part ys e told =
      let one = h next part told.0 told.1 told.2 told.3
      (subst (λ (s : F). R s next part told.0 told.1 told.2 told.3) e told.4) in
      merged_by_answer told.0 told.1 next part told.2 told.3 rest ys (merged_after rest) one.0 one.1 one.2 one.3 told.5

  pub merged_from_dedup : (xs ys : List Part) → IsDeduped R f xs ys → ys ≡ merged gap xs
  merged_from_dedup xs ys k = grind (arith, merged_after)

-- ---- the facts about parts, by recursion

-- P holds of some element
abbrev pub Among : {X : Type 0} → (X → Type 0) → List X → Type 0
Among P [] = ⊥
Among P (x ∷ xs) = P x ⊎ Among P xs

pub among : {X : Type 0} (P : X → Type 0) (xs : List X) → Any P xs → Among P xs
among P [] a = let l = a.2 in absurd (omega (arith, l))
among P (x ∷ xs) a = ⊎_elim (λ here. inl here) (λ later. inr (among P xs later)) (any_cases P x xs a)

pub any_among : {X : Type 0} (P : X → Type 0) (xs : List X) → Among P xs → Any P xs
any_among P [] i = absurd i
any_among P (x ∷ xs) i = ⊎_elim (any_here P x xs) (λ later. any_later P x xs (any_among P xs later)) i

-- one of the parts holds the position
abbrev In : ℕ → List Part → Type 0
In p parts = Among (Holds p) parts

-- no part begins before `low`, or before the part in front of it
abbrev pub Rises : ℕ → List Part → Type 0
Rises low [] = ⊤
Rises low (part ∷ rest) = (low ≤ part.first) × Rises part.first rest

pub rises : (low : ℕ) (parts : List Part) → All (λ part. low ≤ part.first) parts
    → IsNonDecreasingBy (λ (part : Part). part.first) parts → Rises low parts
rises low [] from up = tt
rises low (part ∷ rest) from up = (
  from 0 part (omega arith),
  rises part.first rest (λ k d l. up 0 (suc k) d (omega arith) (omega arith))
      (λ i j d l m. up (suc i) (suc j) d (omega arith) (omega arith)),
)

-- the parts lie in a representation of this length, from `low` on, and far enough apart
abbrev Spread : ℕ → ℕ → ℕ → List Part → Type 0
Spread len gap low [] = ⊤
Spread len gap low (part ∷ rest) = (low ≤ part.first) × IsPartOf len part × Spread len gap (part.last + gap + 2) rest

spread_lower : (len gap low more : ℕ) (parts : List Part) → low ≤ more → Spread len gap more parts
    → Spread len gap low parts
spread_lower len gap low more [] l h = tt
spread_lower len gap low more (part ∷ rest) l h = (omega (arith, h.0), h.1, h.2)

spread_from : (len gap low : ℕ) (parts : List Part) → All (λ part. low ≤ part.first) parts → AreCoalesced len gap parts
    → Spread len gap low parts
spread_from len gap low [] from h = tt
spread_from len gap low (part ∷ rest) from h = (
  from 0 part (omega arith),
  h.within 0 part (omega arith),
  spread_from len gap (part.last + gap + 2) rest
      (λ k d l. let apart = h.apart 0 (suc k) d (omega arith) (omega arith) in omega (arith, apart)) record {
        within = λ k d l. h.within (suc k) d (omega arith);
        apart = λ i j d l m. h.apart (suc i) (suc j) d (omega arith) (omega arith);
      },
)

-- of parts that lie anywhere
spread : (len gap : ℕ) (parts : List Part) → AreCoalesced len gap parts → Spread len gap 0 parts
spread len gap parts h = spread_from len gap 0 parts (λ k d l. omega arith) h

starts : (len gap low : ℕ) (parts : List Part) → Spread len gap low parts → All (λ part. low ≤ part.first) parts
starts len gap low [] h = λ k d l. absurd (omega (arith, l))
starts len gap low (part ∷ rest) h = All-cons (λ p. low ≤ p.first) part rest h.0
    (starts len gap low rest (spread_lower len gap low (part.last + gap + 2) rest (omega arith) h.2))

coalesced_by : (len gap low : ℕ) (parts : List Part) → Spread len gap low parts → AreCoalesced len gap parts
coalesced_by len gap low [] h =
    record { within = λ k d l. absurd (omega (arith, l)); apart = λ i j d l m. absurd (omega (arith, m)) }
coalesced_by len gap low (part ∷ rest) h =
    grind (arith, coalesced_by len gap (part.last + gap + 2) rest h.2, starts len gap (part.last + gap + 2) rest h.2)

-- ---- joined parts

rises_lower : (low part : ℕ) (rest : List Part) → low ≤ part → Rises part rest → Rises low rest
rises_lower low part [] l h = tt
rises_lower low part (next ∷ rest) l h = (omega (arith, h.0), h.1)

merged_spread : (len gap low : ℕ) (part : Part) (rest : List Part) → low ≤ part.first → IsPartOf len part
    → Rises part.first rest → All (IsPartOf len) rest → Spread len gap low (merged_from gap part rest)
merged_spread len gap low part [] l h up all = (l, h, tt)
merged_spread len gap low part (next ∷ rest) l h up all = grind (
  arith,
  cases_Bool,
  nat_le,
  leb-false,
  rises_lower,
  merged_spread len gap low (joined part next) rest,
  merged_spread len gap (part.last + gap + 2) next rest,
  All-head (IsPartOf len) next rest all,
  All-tail (IsPartOf len) next rest all,
)

-- joined parts hold what the parts do
merged_holds : (gap p : ℕ) (part : Part) (rest : List Part) → Rises part.first rest → In p (part ∷ rest)
    → In p (merged_from gap part rest)
merged_holds gap p part [] up i = i
merged_holds gap p part (next ∷ rest) up i = grind (
  arith,
  cases_Bool,
  nat_le,
  rises_lower,
  merged_holds gap p (joined part next) rest,
  merged_holds gap p next rest,
)

-- a position of which P holds is joined to itself
pub joined_itself : (gap : ℕ) (P : ℕ → Type 0) (p : ℕ) → P p → IsJoined gap P p
joined_itself gap P p h = grind (arith)

-- what two close parts hold together is joined, if what each holds is
joined_holds : (gap : ℕ) (P : ℕ → Type 0) (part next : Part) (p : ℕ) → next.first ≤ part.last + gap + 1
    → ((q : ℕ) → Holds q part → IsJoined gap P q) → ((q : ℕ) → Holds q next → P q) → P part.last → P next.first
    → Holds p (joined part next) → IsJoined gap P p
joined_holds gap P part next p close covered follows last first h = elim (cases_lt part.last p) [
  | inr high ↦ covered p (omega arith, omega (arith, high))
  | inl past ↦
      elim (cases_lt p next.first) [
        | inr from ↦ joined_itself gap P p (follows p (omega (arith, from), omega arith))
        | inl ahead ↦
            record {
              before = part.last;
              after = next.first;
              is_before = last;
              is_after = first;
              low = omega (arith, past);
              high = omega (arith, ahead);
              close = close;
            }
      ]
]

-- what joined parts hold is joined to positions of the parts
merged_joins : (gap : ℕ) (P : ℕ → Type 0) (part : Part) (rest : List Part) (p : ℕ)
    → ((q : ℕ) → Holds q part → IsJoined gap P q) → P part.last → ((q : ℕ) → In q rest → P q)
    → All (λ q. q.first ≤ q.last) rest → In p (merged_from gap part rest) → IsJoined gap P p
merged_joins gap P part [] p covered last follows ordered i = grind arith
merged_joins gap P part (next ∷ rest) p covered last follows ordered i =
    let up = ordered 0 next (omega arith) in
    let others = All-tail (λ q. q.first ≤ q.last) next rest ordered in
    let last_next : P next.last = follows next.last (inl (up, omega arith)) in
    elim (cases_Bool (nat_le next.first (part.last + gap + 1))) [
      | inl y ↦
          merged_joins gap P (joined part next) rest p
          (λ q h. joined_holds gap P part next q (leb-true _ _ y) covered (λ r k. follows r (inl k)) last
          (follows next.first (inl (omega arith, up))) h)
          (grind (arith, cases_Bool, nat_le, leb-true, leb-false)) (λ q k. follows q (inr k)) others (rw y at i)
      | inr n ↦
          let parts : In p (part ∷ merged_from gap next rest) = rw n at i in
          ⊎_elim (covered p) (merged_joins gap P next rest p (λ q h. joined_itself gap P q (follows q (inl h)))
          last_next (λ q k. follows q (inr k)) others) parts
    ]

-- ---- which positions coalesced parts hold

-- parts from `low` on hold no position below it
holds_from : (len gap low p : ℕ) (parts : List Part) → Spread len gap low parts → In p parts → low ≤ p
holds_from len gap low p [] h i = absurd i
holds_from len gap low p (part ∷ rest) h i = grind (arith, holds_from len gap (part.last + gap + 2) p rest)

-- parts that lie further apart hold both ends of a gap only in one of them, and so all of it
gap_held : (len gap low a b p : ℕ) (parts : List Part) → Spread len gap low parts → In a parts → In b parts → a ≤ p
    → p ≤ b → b ≤ a + gap + 1 → In p parts
gap_held len gap low a b p [] h i j l m close = i
gap_held len gap low a b p (part ∷ rest) h i j l m close = grind (
  arith,
  holds_from len gap (part.last + gap + 2) a rest,
  holds_from len gap (part.last + gap + 2) b rest,
  gap_held len gap (part.last + gap + 2) a b p rest,
)

pub sizes_from : (len gap low : ℕ) (parts : List Part) → Spread len gap low parts → low ≤ len
    → low + sum_by part_size parts ≤ len
sizes_from len gap low [] h l = omega arith
sizes_from len gap low (part ∷ rest) h l =
    let behind = spread_lower len gap (part.last + 1) (part.last + gap + 2) rest (omega arith) h.2 in
    let more = sizes_from len gap (part.last + 1) rest behind (omega arith) in
    omega (arith, more, sum_by-cons part_size part rest)

-- ---- coalesced parts are the only ones that cover their positions

-- of two lists, if the second holds what the first does, its first part reaches as far
covers_first : (len gap l m : ℕ) (x y : Part) (xs ys : List Part) → Spread len gap l (x ∷ xs)
    → Spread len gap m (y ∷ ys) → ((p : ℕ) → In p (x ∷ xs) → In p (y ∷ ys))
    → (y.first ≤ x.first) × (x.first ≡ y.first → x.last ≤ y.last)
covers_first len gap l m x y xs ys h k covers = grind (
  arith,
  cases_lt y.last x.last,
  covers x.first,
  covers (y.last + 1),
  holds_from len gap (y.last + gap + 2) x.first ys,
  holds_from len gap (y.last + gap + 2) (y.last + 1) ys,
)

covers_rest : (len gap l : ℕ) (x y : Part) (xs ys : List Part) → Spread len gap l (x ∷ xs) → x.last ≡ y.last
    → ((p : ℕ) → In p (x ∷ xs) → In p (y ∷ ys)) → (p : ℕ) → In p xs → In p ys
covers_rest len gap l x y xs ys h same covers p i = grind (arith, covers p, holds_from len gap (x.last + gap + 2) p xs)

one_spread : (len gap l m : ℕ) (xs ys : List Part) → Spread len gap l xs → Spread len gap m ys
    → ((p : ℕ) → In p xs → In p ys) → ((p : ℕ) → In p ys → In p xs) → xs ≡ ys
one_spread len gap l m [] [] h k there back = refl
one_spread len gap l m [] (y ∷ ys) h k there back = grind (arith, back y.first)
one_spread len gap l m (x ∷ xs) [] h k there back = grind (arith, there x.first)
one_spread len gap l m (x ∷ xs) (y ∷ ys) h k there back =
    let a = covers_first len gap l m x y xs ys h k there in
    let b = covers_first len gap m l y x ys xs k h back in
    let first : x.first ≡ y.first = omega arith in
    let last : x.last ≡ y.last = omega (arith, a.1 first, b.1 (sym first)) in
    let rest = one_spread len gap (x.last + gap + 2) (y.last + gap + 2) xs ys h.2 k.2
    (covers_rest len gap l x y xs ys h last there) (covers_rest len gap m y x ys xs k (sym last) back) in
    grind (arith, first, last, rest)

pub coalesced_once : (len gap : ℕ) (xs ys : List Part) → AreCoalesced len gap xs → AreCoalesced len gap ys
    → ((p : ℕ) → Any (Holds p) xs ↔ Any (Holds p) ys) → xs ≡ ys
coalesced_once len gap xs ys h k same = one_spread len gap 0 0 xs ys (spread len gap xs h) (spread len gap ys k)
    (λ p i. among (Holds p) ys ((same p).0 (any_among (Holds p) xs i)))
    (λ p i. among (Holds p) xs ((same p).1 (any_among (Holds p) ys i)))

pub sizes_of_coalesced : (len gap : ℕ) (parts : List Part) → AreCoalesced len gap parts → sum_by part_size parts ≤ len
sizes_of_coalesced len gap parts h =
    let sizes = sizes_from len gap 0 parts (spread len gap parts h) (omega arith) in omega (arith, sizes)

-- ---- what `coalesce` gives: the parts in another order, which rises, and then joined

pub coalesced_from : (len gap : ℕ) (old new : List Part) → IsPermutation old new → Rises 0 new
    → All (IsPartOf len) old → AreCoalesced len gap (merged gap new)
coalesced_from len gap old new moved up all = by new up (All-permutation (IsPartOf len) old new moved all)
  where
    by : (parts : List Part) → Rises 0 parts → All (IsPartOf len) parts → AreCoalesced len gap (merged gap parts)
    by [] up all = coalesced_by len gap 0 [] tt
    by (part ∷ rest) up all = coalesced_by len gap 0 (merged_from gap part rest)
        (merged_spread len gap 0 part rest (omega arith) (All-head (IsPartOf len) part rest all) up.1
        (All-tail (IsPartOf len) part rest all))

any_moved : {X : Type 0} (P : X → Type 0) (xs ys : List X) → IsPermutation xs ys → Any P xs → Any P ys
any_moved P xs ys h a =
    let c = Contains-permutation xs ys a.1 h (a.0, a.2, a.3) in (c.0, a.1, c.1, c.2, a.4)

pub joined_weaker : (gap : ℕ) (P Q : ℕ → Type 0) (p : ℕ) → ((q : ℕ) → P q → Q q) → IsJoined gap P p → IsJoined gap Q p
joined_weaker gap P Q p is j = grind (arith)

pub IsJoined-same : (gap : ℕ) (P Q : ℕ → Type 0) (p : ℕ) → ((q : ℕ) → P q ↔ Q q) → IsJoined gap P p ↔ IsJoined gap Q p
IsJoined-same gap P Q p same = (joined_weaker gap P Q p (λ q. (same q).0), joined_weaker gap Q P p (λ q. (same q).1))

-- the positions of parts in order and of small gaps between them are those of the joined parts
merged_is : (len gap p : ℕ) (parts : List Part) → Rises 0 parts → All (IsPartOf len) parts
    → In p (merged gap parts) ↔ IsJoined gap (λ q. In q parts) p
merged_is len gap p [] up all = grind arith
merged_is len gap p (part ∷ rest) up all =
    let h = All-head (IsPartOf len) part rest all in
    let others = All-tail (IsPartOf len) part rest all in (
      merged_joins gap (λ q. In q (part ∷ rest)) part rest p
          (λ q held. joined_itself gap (λ r. In r (part ∷ rest)) q (inl held)) (inl (h.0, omega arith)) (λ q i. inr i)
          (λ k d l. (others k d l).0),
      λ j. gap_held len gap 0 j.before j.after p (merged_from gap part rest)
          (merged_spread len gap 0 part rest (omega arith) h up.1 others)
          (merged_holds gap j.before part rest up.1 j.is_before)
          (merged_holds gap j.after part rest up.1 j.is_after) j.low j.high j.close,
    )

pub covers_from : (len gap p : ℕ) (old new : List Part) → IsPermutation old new → Rises 0 new
    → All (IsPartOf len) old → Any (Holds p) (merged gap new) ↔ IsJoined gap (λ q. Any (Holds q) old) p
covers_from len gap p old new moved up all =
    let is = merged_is len gap p new up (All-permutation (IsPartOf len) old new moved all) in (
      λ a. joined_weaker gap (λ q. In q new) (λ q. Any (Holds q) old) p
          (λ q i. any_moved (Holds q) new old (IsPermutation-sym old new moved) (any_among (Holds q) new i))
          (is.0 (among (Holds p) (merged gap new) a)),
      λ j. any_among (Holds p) (merged gap new) (is.1 (joined_weaker gap (λ q. Any (Holds q) old) (λ q. In q new) p
          (λ q a. among (Holds q) new (any_moved (Holds q) old new moved a)) j)),
    )

-- ---- every list has an order

inserted : (low : ℕ) (x : Part) (ys : List Part) → low ≤ x.first → Rises low ys
    → (zs : List Part) × IsPermutation (x ∷ ys) zs × Rises low zs
inserted low x [] l up = (x ∷ [], IsPermutation-refl (x ∷ []), (l, tt))
inserted low x (y ∷ ys) l up = elim (cases_lt y.first x.first) [
  | inr le ↦ (x ∷ y ∷ ys, IsPermutation-refl (x ∷ y ∷ ys), (l, (omega (arith, le), up.1)))
  | inl less ↦
      let rest = inserted y.first x ys (omega (arith, less)) up.1 in (
        y ∷ rest.0,
        IsPermutation-trans (x ∷ y ∷ ys) (y ∷ x ∷ ys) (y ∷ rest.0) (IsPermutation-insert (y ∷ ys) 1 x)
            (IsPermutation-cons y (x ∷ ys) rest.0 rest.1),
        (up.0, rest.2),
      )
]

pub ordered : (xs : List Part) → (ys : List Part) × IsPermutation xs ys × Rises 0 ys
ordered [] = ([], IsPermutation-refl [], tt)
ordered (x ∷ xs) =
    let rest = ordered xs in
    let all = inserted 0 x rest.0 (omega arith) rest.2 in
    (all.0, IsPermutation-trans (x ∷ xs) (x ∷ rest.0) all.0 (IsPermutation-cons x xs rest.0 rest.1) all.1, all.2)
