-- The most recent of the first stored responses, and of all.
use Rattle.std.proofs.Common.{◌≡◌, ◌⊎◌, ℕ, ◌+◌, ◌<◌, ◌≤◌, Bool, true, false, List, length, get_or, Bor, Option, Some}
use Rattle.std.proofs.{Common.{None, inl, inr, refl, sym, ◌∙◌, ap, subst, arith}, lemmas.Bool.{cases_order, ltb-false}}
use Rattle.std.proofs.lemmas.{Bool.ltb-true, Option.{same_Some, slice_get_read, slice_get_within}}
use Rattle.std.specs.{Prelude.{option_map, nat_lt, if◌then◌else◌}, List.slice_get}
use Rattle.{cache_policy.specs.Requests.Request, cache_rules.specs.Selection.{IsMostRecent, IsSelected, renewed}}
use Rattle.cache_rules.specs.{Selection.{IsCandidate, IsChoice, IsPreferred, IsVarying}, Stored.made_at}
use Rattle.cache_rules.specs.declared.{selection.Newest.Newest, stored.StoredResponse.StoredResponse}

module _ (Is : StoredResponse → Type 0) (all : List StoredResponse) where
  -- of the first n this is the most recent one that has the property
  pub record Leads (n : ℕ) (leader : Newest) : Type 0 where
    pub within : leader.place < n
    pub at : slice_get all leader.place ≡ Some leader.response.now
    pub is : Is leader.response.now
    pub newest : (k : ℕ) (other : StoredResponse) → k < n → slice_get all k ≡ Some other → Is other
        → made_at other ≤ made_at leader.response.now
    pub last : (k : ℕ) (other : StoredResponse) → k < n → slice_get all k ≡ Some other → Is other
        → leader.place < k → made_at other < made_at leader.response.now

  abbrev pub LeadsOf : ℕ → Option Newest → Type 0
  LeadsOf n None = (k : ℕ) (other : StoredResponse) → k < n → slice_get all k ≡ Some other → ¬ (Is other)
  LeadsOf n (Some leader) = Leads n leader

  module _ (n : ℕ) (x : StoredResponse) (at : slice_get all n ≡ Some x) where
    -- what is at a place below n + 1 is below n, or is this response
    cases : (k : ℕ) (other : StoredResponse) → k < n + 1 → slice_get all k ≡ Some other
        → (k < n) ⊎ ((k ≡ n) × (other ≡ x))
    cases k other low here = elim (cases_order k n) [
      | inl same ↦
          inr (same, same_Some other x (sym here ∙ ap (λ (j : ℕ). slice_get all j) same ∙ at))
      | inr apart ↦
          elim apart [
            | inl lower ↦ inl lower
            | inr higher ↦ absurd (omega (arith, low, higher))
          ]
    ]

    stays : (newest : Newest) → made_at x < made_at newest.response.now → Leads n newest → Leads (n + 1) newest
    stays newest less h = record {
      within = omega (arith, h.within);
      at = h.at;
      is = h.is;
      newest = λ k other low here has. elim (cases k other low here) [
        | inl lower ↦ h.newest k other lower here has
        | inr same ↦ omega (arith, ap made_at same.1, less)
      ];
      last = λ k other low here has later. elim (cases k other low here) [
        | inl lower ↦ h.last k other lower here has later
        | inr same ↦ omega (arith, ap made_at same.1, less)
      ];
    }

    pub none_more : (newest : Option Newest) → ¬ (Is x) → LeadsOf n newest → LeadsOf (n + 1) newest
    none_more None not none = λ k other low here has. elim (cases k other low here) [
      | inl lower ↦ none k other lower here has
      | inr same ↦ not (subst Is same.1 has)
    ]
    none_more (Some newest) not h = record {
      within = omega (arith, h.within);
      at = h.at;
      is = h.is;
      newest = λ k other low here has. elim (cases k other low here) [
        | inl lower ↦ h.newest k other lower here has
        | inr same ↦ absurd (not (subst Is same.1 has))
      ];
      last = λ k other low here has later. elim (cases k other low here) [
        | inl lower ↦ h.last k other lower here has later
        | inr same ↦ absurd (not (subst Is same.1 has))
      ];
    }

  module _ (n : ℕ) (x : Bor StoredResponse) (at : slice_get all n ≡ Some x.now) where
    alone : Is x.now → LeadsOf n None → Leads (n + 1) (record { place = n; response = x })
    alone is none = record {
      within = omega arith;
      at = at;
      is = is;
      newest = λ k other low here has. elim (cases n x.now at k other low here) [
        | inl lower ↦ absurd (none k other lower here has)
        | inr same ↦ omega (arith, ap made_at same.1)
      ];
      last = λ k other low here has later. absurd (omega (arith, low, later));
    }

    takes_over : (newest : Newest) → Is x.now → made_at newest.response.now ≤ made_at x.now → Leads n newest
        → Leads (n + 1) (record { place = n; response = x })
    takes_over newest is more h = record {
      within = omega arith;
      at = at;
      is = is;
      newest = λ k other low here has. elim (cases n x.now at k other low here) [
        | inl lower ↦ omega (arith, h.newest k other lower here has, more)
        | inr same ↦ omega (arith, ap made_at same.1)
      ];
      last = λ k other low here has later. absurd (omega (arith, low, later));
    }

    pub one_more : (newest : Option Newest) → Is x.now → LeadsOf n newest → LeadsOf (n + 1) (renewed newest n x)
    one_more None is h = alone is h
    one_more (Some newest) is h = by (nat_lt (made_at x.now) (made_at newest.response.now)) refl
      where
        by : (less : Bool) → nat_lt (made_at x.now) (made_at newest.response.now) ≡ less
            → LeadsOf (n + 1) (if less then Some newest else Some (record { place = n; response = x }))
        by true e = stays n x.now at newest (ltb-true (made_at x.now) (made_at newest.response.now) e) h
        by false e = takes_over newest is (ltb-false (made_at x.now) (made_at newest.response.now) e) h

  -- who leads in the end is selected
  pub leader_is_selected : (newest : Option Newest) → LeadsOf (length all) newest
      → IsSelected Is all (option_map (λ (n : Newest). n.place) newest)
  leader_is_selected None none = λ k other here. none k other (slice_get_within all k other here) here
  leader_is_selected (Some newest) h = record {
    response = newest.response.now;
    at = h.at;
    is = h.is;
    newest = λ k other here has. h.newest k other (slice_get_within all k other here) here has;
    last = λ k other here has later. h.last k other (slice_get_within all k other here) here has later;
  }

  -- one step of a loop over the list, of a response that has the property, and of one that hasn't
  pub step_in : (n : ℕ) (x : Bor StoredResponse) (newest next : Option Newest) → n < length all
      → x.now ≡ get_or all n x.now → Is x.now → next ≡ renewed newest n x → LeadsOf n newest → LeadsOf (n + 1) next
  step_in n x newest next low here is e h =
      rw (← e) at (one_more n x (slice_get_read all (length all) n x.now refl low here) newest is h)

  pub step_out : (n : ℕ) (x : StoredResponse) (newest next : Option Newest) → n < length all
      → x ≡ get_or all n x → ¬ (Is x) → next ≡ newest → LeadsOf n newest → LeadsOf (n + 1) next
  step_out n x newest next low here not f h =
      subst (LeadsOf (n + 1)) (sym f) (none_more n x (slice_get_read all (length all) n x refl low here) newest not h)

  -- what the loop ends with
  pub end_some : (n : ℕ) (found : Option Newest) (newest : Newest) → found ≡ Some newest → length all ≤ n
      → n ≤ length all → LeadsOf n found → IsMostRecent Is all newest.place
  end_some n found newest is high low h = leader_is_selected (Some newest)
      (subst (λ (m : ℕ). LeadsOf m (Some newest)) (omega (arith, high, low)) (subst (LeadsOf n) is h))

  pub end_none : (n : ℕ) (found : Option Newest) → found ≡ None → length all ≤ n
      → n ≤ length all → LeadsOf n found → IsSelected Is all None
  end_none n found is high low h = leader_is_selected None
      (subst (λ (m : ℕ). LeadsOf m None) (omega (arith, high, low)) (subst (LeadsOf n) is h))

  -- ---- one is selected, and only one

  not_later : (a b : ℕ) → IsMostRecent Is all a → IsMostRecent Is all b → ¬ (a < b)
  not_later a b h k low =
      let less : made_at k.response < made_at h.response = h.last b k.response k.at k.is low in
      let more : made_at h.response ≤ made_at k.response = k.newest a h.response h.at h.is in
      omega (arith, less, more)

  pub selects_one : (a b : Option ℕ) → IsSelected Is all a → IsSelected Is all b → a ≡ b
  selects_one None None h k = refl
  selects_one None (Some b) h k = absurd (h b k.response k.at k.is)
  selects_one (Some a) None h k = absurd (k a h.response h.at h.is)
  selects_one (Some a) (Some b) h k = elim (cases_order a b) [
    | inl same ↦ ap (λ (n : ℕ). Some n) same
    | inr apart ↦
        elim apart [
          | inl lower ↦ absurd (not_later a b h k lower)
          | inr higher ↦ absurd (not_later b a k h higher)
        ]
  ]

-- ---- what is chosen for a request

-- a request has one choice
pub one_choice : (request : Request) (all : List StoredResponse) (a b : Option ℕ) → IsChoice request all a
    → IsChoice request all b → a ≡ b
one_choice request all None None h k = refl
one_choice request all None (Some b) h k = absurd (h b k.response k.at k.is.0)
one_choice request all (Some a) None h k = absurd (k a h.response h.at h.is.0)
one_choice request all (Some a) (Some b) h k = selects_one (IsPreferred request all) all (Some a) (Some b) h k

module _ (request : Request) (all : List StoredResponse) where
  abbrev IsVaryingCandidate : StoredResponse → Type 0
  IsVaryingCandidate stored = IsCandidate request stored × IsVarying stored

  -- the most recent one with Vary is chosen
  pub varying_chosen : (place : ℕ) → IsSelected IsVaryingCandidate all (Some place) → IsChoice request all (Some place)
  varying_chosen place h =
      let has_vary : (other : StoredResponse) → IsPreferred request all other → IsVaryingCandidate other =
      λ other has. (
        has.0,
        elim has.1 [
          | inl varying ↦ varying
          | inr none ↦ absurd (none place h.response h.at h.is.0 h.is.1)
        ],
      ) in
      record {
        response = h.response;
        at = h.at;
        is = (h.is.0, inl h.is.1);
        newest = λ k other here has. h.newest k other here (has_vary other has);
        last = λ k other here has later. h.last k other here (has_vary other has) later;
      }

  -- if there is none, the most recent one of all is
  pub any_chosen : IsSelected IsVaryingCandidate all None → (found : Option ℕ)
      → IsSelected (IsCandidate request) all found → IsChoice request all found
  any_chosen none None h = h
  any_chosen none (Some place) h = record {
    response = h.response;
    at = h.at;
    is = (h.is, inr (λ k other here candidate varying. none k other here (candidate, varying)));
    newest = λ k other here has. h.newest k other here has.0;
    last = λ k other here has later. h.last k other here has.0 later;
  }
