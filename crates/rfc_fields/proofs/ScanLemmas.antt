-- The steps of the loop over a text, and what the end of its first element makes of its pieces.
use Rattle.std.proofs.Common.{◌≡◌, ℕ, zero, suc, ◌+◌, ◌<◌, ◌≤◌, Bool, true, false, cond, List, [], ◌∷◌, length, get_or}
use Rattle.std.proofs.Common.{take, drop, Some, None, refl, sym, ◌∙◌, ap, subst, add-one, arith}
use Rattle.std.proofs.{lemmas.{Bool.{false_from_ne_true, or_parts}, List.drop_all}, Math.Seq.drop-cons}
use Rattle.{std.specs.Prelude.{◌&&◌, ◌==◌}, memchr.specs.Find.{IsFirstByte, is_byte2}}
use Rattle.rfc_fields.specs.Scan.{state_after, is_cut, end_of, end_from, push, pieces, FindsEnd, Member.Whole}
use Rattle.rfc_fields.specs.{Scan.Member.Malformed, declared.scan.State.{State, TheVariants.{Outside, Inside}}}
use Rattle.rfc_fields.specs.declared.scan.End.{End, TheVariants.{Cut, Closed, Open}}

pub end_from-step : (sep : ℕ) (q : Bool) (st : State) (i : ℕ) (s : List ℕ) → i < length s
    → end_from sep q st i (drop i s)
    ≡ cond (is_cut sep st (get_or s i 0)) (Cut i) (end_from sep q (state_after q st (get_or s i 0)) (i + 1)
    (drop (i + 1) s))
unfolding end_from
end_from-step sep q st i s h = grind (arith, drop-cons, add-one)

-- the loop's fact, carried over a byte and to the end
pub end_from-next : (sep : ℕ) (q : Bool) (st st' : State) (i : ℕ) (s : List ℕ) (all : End) → i < length s
    → is_cut sep st (get_or s i 0) ≡ false → st' ≡ state_after q st (get_or s i 0)
    → all ≡ end_from sep q st i (drop i s) → all ≡ end_from sep q st' (i + 1) (drop (i + 1) s)
end_from-next sep q st st' i s all h e n a = grind (arith, end_from-step)

pub end_from-here : (sep : ℕ) (q : Bool) (st : State) (i : ℕ) (s : List ℕ) (all : End) → i < length s
    → is_cut sep st (get_or s i 0) ≡ true → all ≡ end_from sep q st i (drop i s) → all ≡ Cut i
end_from-here sep q st i s all h e a = grind (arith, end_from-step)

pub end_from-end : (sep : ℕ) (q : Bool) (st : State) (i : ℕ) (s : List ℕ) (all : End) → length s ≤ i
    → all ≡ end_from sep q st i (drop i s) → all ≡ end_of st
unfolding end_from
end_from-end sep q st i s all h a = a ∙ ap (end_from sep q st i) (drop_all i s h)

pub pieces-cons : (sep : ℕ) (q : Bool) (st : State) (b : ℕ) (s : List ℕ) → pieces sep q st (b ∷ s)
    ≡ cond (is_cut sep st b) (Whole [] ∷ pieces sep q Outside s) (push b (pieces sep q (state_after q st b) s))
unfolding pieces
pieces-cons sep q st b s = refl

-- a byte that doesn't cut is one of the first piece
pub pieces-push : (sep : ℕ) (q : Bool) (st st' : State) (b : ℕ) (s : List ℕ) → is_cut sep st b ≡ false
    → state_after q st b ≡ st' → pieces sep q st (b ∷ s) ≡ push b (pieces sep q st' s)
pieces-push sep q st st' b s e n = grind (arith, pieces-cons)

-- a byte that cuts ends it
pub pieces-cut : (sep : ℕ) (q : Bool) (st : State) (b : ℕ) (s : List ℕ) → is_cut sep st b ≡ true
    → pieces sep q st (b ∷ s) ≡ Whole [] ∷ pieces sep q Outside s
pieces-cut sep q st b s e = grind (arith, pieces-cons)

-- the cut is k places after place i, and splits the pieces
pub record Splits (sep : ℕ) (q : Bool) (st : State) (i : ℕ) (s : List ℕ) (n : ℕ) : Type 0 where
  pub k : ℕ
  pub at : n ≡ i + k
  pub within : k < length s
  pub split : pieces sep q st s ≡ Whole (take k s) ∷ pieces sep q Outside (drop (suc k) s)

abbrev pub Finds : ℕ → Bool → State → ℕ → List ℕ → End → Type 0
Finds sep q st i s (Cut n) = Splits sep q st i s n
Finds sep q st i s Closed = pieces sep q st s ≡ Whole s ∷ []
Finds sep q st i s Open = pieces sep q st s ≡ Malformed ∷ []

finds_end_of : (sep : ℕ) (q : Bool) (st : State) (i : ℕ) → Finds sep q st i [] (end_of st)
unfolding pieces
finds_end_of sep q st i = grind arith

finds_later : (sep : ℕ) (q : Bool) (st : State) (i b : ℕ) (s : List ℕ) (r : End) → is_cut sep st b ≡ false
    → Finds sep q (state_after q st b) (i + 1) s r → Finds sep q st i (b ∷ s) r
unfolding push
finds_later sep q st i b s Closed e h = pieces-push sep q st (state_after q st b) b s e refl ∙ ap (push b) h
finds_later sep q st i b s Open e h = pieces-push sep q st (state_after q st b) b s e refl ∙ ap (push b) h
finds_later sep q st i b s (Cut n) e h = record {
  k = suc h.k;
  at = omega (arith, h.at);
  within = omega (arith, h.within);
  split = pieces-push sep q st (state_after q st b) b s e refl ∙ ap (push b) h.split;
}

finds_step : (sep : ℕ) (q : Bool) (st : State) (i b : ℕ) (s : List ℕ) (c : Bool) → is_cut sep st b ≡ c
    → Finds sep q (state_after q st b) (i + 1) s (end_from sep q (state_after q st b) (i + 1) s)
    → Finds sep q st i (b ∷ s) (cond c (Cut i) (end_from sep q (state_after q st b) (i + 1) s))
finds_step sep q st i b s c e h = grind (arith, pieces-cut, finds_later)

finds : (sep : ℕ) (q : Bool) (st : State) (i : ℕ) (s : List ℕ) → Finds sep q st i s (end_from sep q st i s)
unfolding end_from
finds sep q st i [] = finds_end_of sep q st i
finds sep q st i (b ∷ s) = finds_step sep q st i b s (is_cut sep st b) refl (finds sep q (state_after q st b) (i + 1) s)

from_finds : (sep : ℕ) (q : Bool) (s : List ℕ) (r : End) → Finds sep q Outside 0 s r → FindsEnd sep q s r
from_finds sep q s r h = grind arith

-- over bytes that are neither a quote nor the separator, the scan stays outside
skipped : (sep : ℕ) (q : Bool) (i k : ℕ) (s : List ℕ) → k ≤ length s
    → ((j : ℕ) → 0 ≤ j → j < k → is_byte2 34 sep (get_or s j 0) ≡ true → ⊥)
    → end_from sep q Outside i s ≡ end_from sep q Outside (i + k) (drop k s)
unfolding end_from
skipped sep q i zero s l h = ap (λ n. end_from sep q Outside n s) (omega arith)
skipped sep q i (suc k) [] l h = absurd (omega arith)
skipped sep q i (suc k) (b ∷ s) l h =
    let no = or_parts (b == 34) (b == sep) (false_from_ne_true _ (h 0 (omega arith) (omega arith))) in
    ap (λ c. cond (c && true) (Cut i) (end_from sep q (cond (b == 34) Inside Outside) (i + 1) s)) no.1
    ∙ ap (λ c. end_from sep q (cond c Inside Outside) (i + 1) s) no.0
    ∙ skipped sep q (i + 1) k s (omega arith) (λ j low high e. h (suc j) (omega arith) (omega arith) e)
    ∙ ap (λ n. end_from sep q Outside n (drop k s)) (omega arith)

-- the first element ends where the loop from the first quote or separator finds its end
pub end_at : (sep : ℕ) (q : Bool) (s : List ℕ) (place : ℕ) (r : End) → IsFirstByte (is_byte2 34 sep) s (Some place)
    → r ≡ end_from sep q Outside place (drop place s) → FindsEnd sep q s r
end_at sep q s place r h e =
    let same : end_from sep q Outside 0 s ≡ r = skipped sep q 0 place s (omega (arith, h.0.high)) h.0.before
    ∙ ap (λ n. end_from sep q Outside n (drop place s)) (omega arith) ∙ sym e in
    from_finds sep q s r (subst (Finds sep q Outside 0 s) same (finds sep q Outside 0 s))

-- and with the text, if there is neither
pub end_nowhere : (sep : ℕ) (q : Bool) (s : List ℕ) → IsFirstByte (is_byte2 34 sep) s None → FindsEnd sep q s Closed
unfolding end_from
end_nowhere sep q s h =
    let same : end_from sep q Outside 0 s ≡ Closed = skipped sep q 0 (length s) s (omega arith) h
    ∙ ap (end_from sep q Outside (0 + length s)) (drop_all (length s) s (omega arith)) in
    from_finds sep q s Closed (subst (Finds sep q Outside 0 s) same (finds sep q Outside 0 s))
