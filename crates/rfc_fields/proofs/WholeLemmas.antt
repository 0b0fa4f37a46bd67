-- A whole member is well formed by itself.
use Rattle.{headers_syntax.specs.Text.{is_blank, trim, trim_start}, rfc_fields.proofs.GrammarLemmas.false_true}
use Rattle.rfc_fields.{proofs.PieceLemmas.whole_pieces, specs.{Grammar.comma, Laws.PartsAreWhole}}
use Rattle.rfc_fields.specs.{Laws.WholeMembersAreWellFormed, Members.{closes_member, members_of}, Scan.Member}
use Rattle.rfc_fields.specs.Scan.{Member.{Malformed, Whole}, closes, is_cut, is_outside, last_member, pieces, push}
use Rattle.rfc_fields.specs.{Scan.state_after, declared.scan.State.{State, TheVariants.{Escaped, Inside, Outside}}}
use Rattle.std.proofs.Common.{Bool, List, [], ap, arith, cond, drop, false, get_or, inl, inr, length, refl, subst, suc}
use Rattle.std.proofs.{Common.{sym, take, true, zero, ℕ, ◌++◌, ◌+◌, ◌-◌, ◌∙◌, ◌∷◌, ◌≡◌, ◌≤◌}, Math.Seq.take-suc}
use Rattle.std.proofs.lemmas.{Bool.{and_parts, cases_Bool, eqb-true, or_cases}, Grind.common_steps}
use Rattle.std.{proofs.lemmas.List.{Sums.{suffix_len-take_no, suffix_len-take_yes}, take_all}, specs.List.list_all}
use Rattle.std.specs.{List.{prefix_len, suffix_len}, Prelude.{◌&&◌, ◌==◌}}

-- a blank leaves the state as it is, but behind a backslash
blank_outside : (q : Bool) (b : ℕ) → is_blank b ≡ true → state_after q Outside b ≡ Outside
blank_outside q b h = grind (arith, or_cases, eqb-true)

inside_step : (q : Bool) → cond (q && false) Escaped Inside ≡ Inside
inside_step q = grind arith

blank_inside : (q : Bool) (b : ℕ) → is_blank b ≡ true → state_after q Inside b ≡ Inside
blank_inside q b h = grind (arith, or_cases, eqb-true, inside_step)

-- blanks at the start make no difference
leading_case : (q : Bool) (b : ℕ) (s : List ℕ) (c : Bool) → is_blank b ≡ c
    → closes q Outside (drop (prefix_len is_blank s) s) ≡ closes q Outside s
    → closes q Outside (drop (cond c (1 + prefix_len is_blank s) 0) (b ∷ s)) ≡ closes q Outside (b ∷ s)
unfolding closes
leading_case q b s c e h = grind (arith, blank_outside)

leading : (q : Bool) (s : List ℕ) → closes q Outside (trim_start s) ≡ closes q Outside s
leading q [] = refl
leading q (b ∷ s) = leading_case q b s (is_blank b) refl (leading q s)

-- and one at the end of a well formed text is behind its last quote
strip_one : (q : Bool) (st : State) (b : ℕ) → is_blank b ≡ true → closes q st (b ∷ []) ≡ true → closes q st [] ≡ true
unfolding closes
strip_one q st b h e = grind (arith, false_true, blank_inside)

strip_last : (q : Bool) (st : State) (s : List ℕ) (b : ℕ) → is_blank b ≡ true → closes q st (s ++ b ∷ []) ≡ true
    → closes q st s ≡ true
unfolding closes
strip_last q st [] b h e = strip_one q st b h e
strip_last q st (x ∷ s) b h e = strip_last q (state_after q st x) s b h e

trailing : (q : Bool) (st : State) (s : List ℕ) (n : ℕ) → n ≤ length s → closes q st (take n s) ≡ true
    → closes q st (take (n - suffix_len is_blank (take n s)) s) ≡ true
trailing q st s zero h e = grind (arith)
trailing q st s (suc m) h e = elim (cases_Bool (is_blank (get_or s m 0))) [
  | inl blank ↦
      let len : suffix_len is_blank (take (suc m) s) ≡ 1 + suffix_len is_blank (take m s) =
      suffix_len-take_yes is_blank s (suc m) 0 (omega arith) h (ap (λ k. is_blank (get_or s k 0)) (omega arith)
      ∙ blank)
      ∙ ap (λ k. 1 + suffix_len is_blank (take k s)) (omega arith) in
      let front : closes q st (take m s) ≡ true =
      strip_last q st (take m s) (get_or s m 0) blank (sym (ap (closes q st) (take-suc s m 0 (omega arith))) ∙ e) in
      let same : m - suffix_len is_blank (take m s) ≡ suc m - suffix_len is_blank (take (suc m) s) = omega arith in
      subst (λ (k : ℕ). closes q st (take k s) ≡ true) same (trailing q st s m (omega arith) front)
  | inr other ↦
      let len : suffix_len is_blank (take (suc m) s) ≡ 0 =
      suffix_len-take_no is_blank s (suc m) 0 (omega arith) h (ap (λ k. is_blank (get_or s k 0)) (omega arith)
      ∙ other) in
      let same : suc m ≡ suc m - suffix_len is_blank (take (suc m) s) = omega arith in
      subst (λ (k : ℕ). closes q st (take k s) ≡ true) same e
]

-- a well formed text is well formed without the blanks about it
pub trim_closes : (q : Bool) (s : List ℕ) → closes q Outside s ≡ true → closes q Outside (trim s) ≡ true
trim_closes q s h =
    let t = trim_start s in
    let all : take (length t) t ≡ t = take_all (length t) t (omega arith) in
    rw all at (trailing q _ t _ (omega arith) (ap (closes q Outside) all ∙ leading q s ∙ h))

-- each whole piece is well formed, the first one from a state on
abbrev pub PieceCloses : Bool → State → Member → Type 0
PieceCloses q st (Whole s) = closes q st s ≡ true
PieceCloses q st Malformed = Unit {0}

abbrev pub PiecesClose : Bool → State → List Member → Type 0
PiecesClose q st [] = Unit {0}
PiecesClose q st (m ∷ ms) = PieceCloses q st m × PiecesClose q Outside ms

last_closes : (q : Bool) (st : State) → PieceCloses q st (last_member st)
unfolding closes
last_closes q st = grind arith

push_closes : (q : Bool) (st : State) (b : ℕ) (ps : List Member) → PiecesClose q (state_after q st b) ps
    → PiecesClose q st (push b ps)
unfolding push closes
push_closes q st b ps h = grind arith

closed_at_cut : (sep : ℕ) (q : Bool) (st : State) (b : ℕ) → is_cut sep st b ≡ true → closes q st [] ≡ true
unfolding closes
closed_at_cut sep q st b h = (and_parts (b == sep) (is_outside st) h).1

step_closes : (sep : ℕ) (q : Bool) (st : State) (b : ℕ) (s : List ℕ) (c : Bool) → is_cut sep st b ≡ c
    → PiecesClose q Outside (pieces sep q Outside s) → PiecesClose q (state_after q st b)
    (pieces sep q (state_after q st b) s)
    → PiecesClose q st (cond c (Whole [] ∷ pieces sep q Outside s) (push b (pieces sep q (state_after q st b) s)))
step_closes sep q st b s c e h k = grind (arith, closed_at_cut, push_closes)

pub pieces_close : (sep : ℕ) (q : Bool) (st : State) (s : List ℕ) → PiecesClose q st (pieces sep q st s)
unfolding pieces
pieces_close sep q st [] = (last_closes q st, tt)
pieces_close sep q st (b ∷ s) =
    step_closes _ q st b s _ refl (pieces_close sep q Outside s) (pieces_close sep q (state_after q st b) s)

members_of_close : (q : Bool) (ps : List Member) → PiecesClose q Outside ps
    → list_all (closes_member q) (members_of ps) ≡ true
members_of_close q [] h = refl
members_of_close q (Malformed ∷ ps) h = members_of_close q ps h.1
members_of_close q (Whole s ∷ ps) h = grind (arith, common_steps, trim_closes q s h.0, members_of_close q ps h.1)

pub whole_members_close : WholeMembersAreWellFormed
whole_members_close q line = members_of_close q (pieces comma q Outside line) (pieces_close comma q Outside line)

pub parts_are_whole : PartsAreWhole
parts_are_whole sep q s g = whole_pieces sep q Outside s g.not_quote
