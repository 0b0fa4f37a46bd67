-- Pieces: that there is one, and which of them are whole.
use Rattle.rfc_fields.{proofs.GrammarLemmas.false_true, specs.{Grammar.comma, Members.{is_whole, members, members_of}}}
use Rattle.rfc_fields.specs.Scan.{Member, Member.{Malformed, Whole}, closes, is_cut, last_member, pieces, push}
use Rattle.rfc_fields.specs.{Scan.{state_after, with_byte}, declared.scan.State.{State, TheVariants.Outside}}
use Rattle.std.proofs.Common.{Bool, List, [], ap, arith, cond, false, refl, sym, true, ℕ, ◌∙◌, ◌∷◌, ◌≡◌}
use Rattle.std.{proofs.lemmas.{Bool.{and_parts, eqb-true}, Grind.common_steps}, specs.{List.list_all, Prelude.◌&&◌}}
use Rattle.std.specs.Prelude.{◌==◌}

-- some pieces, of which there's one at least
pub record SomePieces (ps : List Member) : Type 0 where
  pub head : Member
  pub tail : List Member
  pub is : ps ≡ head ∷ tail

some_push : (b : ℕ) (ps : List Member) → SomePieces ps → SomePieces (push b ps)
unfolding push
some_push b ps h = record { head = with_byte b h.head; tail = h.tail; is = ap (push b) h.is }

some_step : (c : Bool) (x y : List Member) → SomePieces x → SomePieces y → SomePieces (cond c x y)
some_step c x y h k = grind arith

pub some_pieces : (sep : ℕ) (q : Bool) (st : State) (s : List ℕ) → SomePieces (pieces sep q st s)
unfolding pieces
some_pieces sep q st [] = record { head = last_member st; tail = []; is = refl }
some_pieces sep q st (b ∷ s) = grind (arith, some_step, some_push, some_pieces sep q (state_after q st b) s)

pub whole_push : (b : ℕ) (ps : List Member) → list_all is_whole (push b ps) ≡ list_all is_whole ps
unfolding push
whole_push b ps = grind arith

-- blanks and empty members make no difference
pub whole_members_of : (ps : List Member) → list_all is_whole (members_of ps) ≡ list_all is_whole ps
whole_members_of [] = refl
whole_members_of (Malformed ∷ ps) = refl
whole_members_of (Whole s ∷ ps) = grind (arith, common_steps, whole_members_of ps)

-- behind a separator that cuts, the scan is outside
pub cut_outside : (sep : ℕ) (q : Bool) (st : State) (b : ℕ) → (sep == 34) ≡ false → is_cut sep st b ≡ true
    → state_after q st b ≡ Outside
cut_outside sep q st b g h = grind (arith, eqb-true, and_parts, false_true)

whole_last : (q : Bool) (st : State) → list_all is_whole (last_member st ∷ []) ≡ closes q st []
unfolding closes
whole_last q st = grind arith

whole_step : (sep : ℕ) (q : Bool) (st : State) (b : ℕ) (s : List ℕ) (c : Bool) → is_cut sep st b ≡ c
    → (sep == 34) ≡ false → list_all is_whole (pieces sep q (state_after q st b) s) ≡ closes q (state_after q st b) s
    → list_all is_whole (cond c (Whole [] ∷ pieces sep q Outside s) (push b (pieces sep q (state_after q st b) s)))
    ≡ closes q (state_after q st b) s
whole_step sep q st b s c e g h = grind (arith, cut_outside, whole_push)

-- each piece is whole exactly if each quote has its end
pub whole_pieces : (sep : ℕ) (q : Bool) (st : State) (s : List ℕ) → (sep == 34) ≡ false
    → list_all is_whole (pieces sep q st s) ≡ closes q st s
unfolding pieces closes
whole_pieces sep q st [] g = whole_last q st
whole_pieces sep q st (b ∷ s) g = whole_step _ q st b s _ refl g (whole_pieces sep q (state_after q st b) s g)

pub whole_members : (q : Bool) (s : List ℕ) → list_all is_whole (members q s) ≡ closes q Outside s
whole_members q s = whole_members_of (pieces comma q Outside s) ∙ whole_pieces comma q Outside s refl

-- an empty line has no members
pub no_members : (q : Bool) → members q [] ≡ []
unfolding pieces
no_members q = refl

-- what a loop that has come to some members left knows of the line
pub well_formed_by : (s : List ℕ) (initial left : List Member) → initial ≡ members true s
    → list_all is_whole initial ≡ list_all is_whole left → list_all is_whole left ≡ closes true Outside s
well_formed_by s initial left e same = sym same ∙ ap (list_all is_whole) e ∙ whole_members true s

and_false : (c d : Bool) → c ≡ false → (c && d) ≡ false
and_false c d e = grind (arith, false_true)

pub malformed_by : (s : List ℕ) (initial left : List Member) → initial ≡ members true s
    → list_all is_whole initial ≡ list_all is_whole left → (m : Member) (rest : List Member) → left ≡ m ∷ rest
    → is_whole m ≡ false → false ≡ closes true Outside s
malformed_by s initial left e same m rest is bad = grind (arith, is, and_false, well_formed_by)
