-- The first of the greatest score in a list.
use Rattle.std.proofs.Common.{◌≡◌, ℕ, zero, suc, ◌+◌, ◌<◌, ◌≤◌, Bool, true, false, List, [], ◌∷◌, length, get_or}
use Rattle.std.proofs.{Common.{Option, Some, None, refl, sym, ◌∙◌, ap, arith}, lemmas.Bool.{cases_order, ltb-false}}
use Rattle.std.{proofs.lemmas.Bool.ltb-true, specs.Prelude.{MatchOption, nat_lt, if◌then◌else◌}}
use Rattle.decide_negotiation.specs.{Choice.{IsFirstOfGreatest, Picks, led}, declared.choice.Leader.Leader}

-- a place within a list has one element
pub at_place : {A : Type 0} (xs : List A) (k : ℕ) (a b : A) → k < length xs → get_or xs k a ≡ get_or xs k b
at_place [] k a b within = absurd (omega (arith, within))
at_place (x ∷ xs) zero a b within = refl
at_place (x ∷ xs) (suc k) a b within = at_place xs k a b (omega (arith, within))

element_at : {A : Type 0} (k : ℕ) (xs : List A) → k < length xs → A
element_at k [] low = absurd (omega (arith, low))
element_at k (x ∷ xs) low = x

module _ {A : Type 0} (score : A → ℕ) (xs : List A) where
  -- what is at this place has this score, and what is before it a lesser one
  pub record Leads (n greatest place : ℕ) : Type 0 where
    pub within : place < n
    pub positive : 0 < greatest
    pub has : (other : A) → score (get_or xs place other) ≡ greatest
    pub before : (k : ℕ) (other : A) → k < place → score (get_or xs k other) < greatest

  -- of the first n none has a greater score than the leader
  pub record IsLeading (n : ℕ) (leader : Leader) : Type 0 where
    pub bound : (k : ℕ) (other : A) → k < n → score (get_or xs k other) ≤ leader.score
    pub leads : MatchOption leader.place (leader.score ≡ 0) (Leads n leader.score)

  pub none_leads : IsLeading 0 (record { place = None; score = 0 })
  none_leads = record { bound = λ k other low. absurd (omega (arith, low)); leads = refl }

  module _ (n : ℕ) (x : A) (within : n < length xs) (is : x ≡ get_or xs n x) where
    here : (other : A) → score (get_or xs n other) ≡ score x
    here other = ap score (at_place xs n other x within ∙ sym is)

    bound_more : (old new : ℕ) → old ≤ new → score x ≤ new
        → ((k : ℕ) (other : A) → k < n → score (get_or xs k other) ≤ old) → (k : ℕ) (other : A) → k < n + 1
        → score (get_or xs k other) ≤ new
    bound_more old new up own bound k other low = grind (arith, cases_order, here, bound)

    -- so it is with one more
    pub leading_on : (leader : Leader) → IsLeading n leader → IsLeading (n + 1) (led leader (Some n) (score x))
    leading_on leader h = by (nat_lt leader.score (score x)) refl
      where
        by : (more : Bool) → nat_lt leader.score (score x) ≡ more
            → IsLeading (n + 1) (if more then record { place = Some n; score = score x } else leader)
        by true e =
            let up : leader.score < score x = ltb-true leader.score (score x) e in
            record {
              bound = bound_more leader.score (score x) (omega (arith, up)) (omega arith) h.bound;
              leads = record {
                within = omega arith;
                positive = omega (arith, up);
                has = here;
                before = λ k other low. omega (arith, h.bound k other low, up);
              };
            }
        by false e =
            let own : score x ≤ leader.score = ltb-false leader.score (score x) e in
            record {
              bound = bound_more leader.score leader.score (omega arith) own h.bound;
              leads = grind (arith, h.leads);
            }

  -- who leads in the end is picked
  pub leader_is_picked : (leader : Leader) → IsLeading (length xs) leader → Picks score xs leader.place
  leader_is_picked leader h = by leader.place h.leads
    where
      by : (place : Option ℕ) → MatchOption place (leader.score ≡ 0) (Leads (length xs) leader.score)
          → Picks score xs place
      by None none = λ k other low. omega (arith, h.bound k other low, none)
      by (Some place) l = record {
        within = l.within;
        positive = λ other. omega (arith, l.has other, l.positive);
        greatest = λ k other low. omega (arith, l.has other, h.bound k other low);
        first = λ k other low. omega (arith, l.has other, l.before k other low);
      }

  -- ---- one is picked, and only one

  not_lower : (a b : ℕ) → IsFirstOfGreatest score xs a → IsFirstOfGreatest score xs b → ¬ (a < b)
  not_lower a b h k low =
      let other : A = element_at a xs h.within in
      let less : score (get_or xs a other) < score (get_or xs b other) = k.first a other low in
      let more : score (get_or xs b other) ≤ score (get_or xs a other) = h.greatest b other k.within in
      omega (arith, less, more)

  picked_is_some : (a : ℕ) → IsFirstOfGreatest score xs a → ¬ (Picks score xs None)
  picked_is_some a h none =
      let other : A = element_at a xs h.within in omega (arith, none a other h.within, h.positive other)

  pub picks_one : (a b : Option ℕ) → Picks score xs a → Picks score xs b → a ≡ b
  picks_one None None h k = refl
  picks_one None (Some b) h k = absurd (picked_is_some b k h)
  picks_one (Some a) None h k = absurd (picked_is_some a h k)
  picks_one (Some a) (Some b) h k = grind (arith, cases_order a b, not_lower a b h k, not_lower b a k h)

  -- who leads a part of the list, from the first on
  leader_of : (n : ℕ) → n ≤ length xs → (leader : Leader) × IsLeading n leader
  leader_of zero low = (record { place = None; score = 0 }, none_leads)
  leader_of (suc n) low =
      let before = leader_of n (omega (arith, low)) in
      let within : n < length xs = omega (arith, low) in
      let x : A = get_or xs n (element_at n xs within) in
      let is : x ≡ get_or xs n x = at_place xs n (element_at n xs within) x within in
      let more : n + 1 ≡ suc n = omega arith in (
        led before.0 (Some n) (score x),
        rw more at (leading_on n x within is before.0 before.1),
      )

  pub picks_some : (choice : Option ℕ) × Picks score xs choice
  picks_some =
      let leader = leader_of (length xs) (omega arith) in
      (leader.0.place, leader_is_picked leader.0 leader.1)
