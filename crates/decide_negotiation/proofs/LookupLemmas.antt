-- What the ranges of a field find.
use Rattle.std.proofs.Common.{◌≡◌, ◌∙◌, ℕ, zero, suc, ◌+◌, ◌<◌, ◌≤◌, Bool, true, false, List, [], ◌∷◌, length, drop}
use Rattle.std.proofs.Common.{get_or, Option, Some, None, refl, sym, ap, subst, arith, length-drop}
use Rattle.std.{proofs.{Math.{Seq.drop-cons, Bool.or-true}, lemmas.Bool.{ltb-true, lt-ltb}}, specs.Prelude.{⊤, nat_lt}}
use Rattle.std.{specs.{Prelude.if◌then◌else◌, List.list_any}, proofs.lemmas.List.Folds.list_any_none}
use Rattle.{std.specs.Option.option_map_or, http_header.specs.FieldValue.FieldValue, rfc_fields.specs.Scan.Member}
use Rattle.decide_negotiation.specs.{Choice.{IsFirstOfGreatest, Picks, led}, Elements.ElementParts}
use Rattle.decide_negotiation.specs.{Languages.language_element_of, MediaRanges.is_star, declared.choice.Leader.Leader}
use Rattle.decide_negotiation.specs.Lookup.{Finds, FoundBy, finds, offer_nearness, range_weight, weight_if_found}
use Rattle.decide_negotiation.proofs.ChoiceLemmas.{IsLeading, at_place, leading_on, leader_is_picked, none_leads}

-- ---- whether anything has a score

module _ {A : Type 0} (score : A → ℕ) where
  none_scores : (xs : List A) → Picks score xs None → list_any (λ x. nat_lt 0 (score x)) xs ≡ false
  none_scores xs h = list_any_none (λ x. nat_lt 0 (score x)) xs (λ k other low. rw (h k other low) refl)

  one_scores : (xs : List A) (place : ℕ) → place < length xs → ((other : A) → 0 < score (get_or xs place other))
      → list_any (λ x. nat_lt 0 (score x)) xs ≡ true
  one_scores [] place low h = absurd (omega (arith, low))
  one_scores (x ∷ xs) zero low h = rw (lt-ltb 0 (score x) (h x)) refl
  one_scores (x ∷ xs) (suc place) low h = rw (one_scores xs place (omega (arith, low)) h) (or-true (nat_lt 0 (score x)))

-- ---- what one range finds

module _ (field : List Member) (offers : List FieldValue) (member : Member) where
  abbrev nothing : Leader
  nothing = record { place = None; score = 0 }

  pub finds_nothing : range_weight field offers member ≡ 0 → FoundBy field offers member nothing
  finds_nothing e = record { score = sym e; place = λ some. absurd (omega (arith, some)) }

  pub no_element : language_element_of member ≡ None → range_weight field offers member ≡ 0
  no_element e = ap (λ o. option_map_or (weight_if_found field offers) o 0) e

  module _ (e : ElementParts) (is : language_element_of member ≡ Some e) where
    weight_is : range_weight field offers member ≡ weight_if_found field offers e
    weight_is = ap (λ o. option_map_or (weight_if_found field offers) o 0) is

    pub star_finds_nothing : is_star e.range ≡ true → range_weight field offers member ≡ 0
    star_finds_nothing star = weight_is ∙ rw star refl

    pub range_finds_nothing : is_star e.range ≡ false → Picks (offer_nearness field (Some e.range)) offers None
        → range_weight field offers member ≡ 0
    range_finds_nothing range none =
        weight_is ∙ rw (range, none_scores (offer_nearness field (Some e.range)) offers none) refl

    pub range_finds : (place : ℕ) → is_star e.range ≡ false
        → IsFirstOfGreatest (offer_nearness field (Some e.range)) offers place
        → FoundBy field offers member (record { place = Some place; score = e.weight })
    range_finds place range h = record {
      score = sym (weight_is
          ∙ rw (range, one_scores (offer_nearness field (Some e.range)) offers place h.within h.positive) refl);
      place = λ some. (e, place, is, refl, h);
    }

-- ---- what all find

module _ (field : List Member) (offers : List FieldValue) where
  -- the range at an index finds the offer at a place
  abbrev FindsAt : ℕ → ℕ → Type 0
  FindsAt index place =
      (e : ElementParts) × ((other : Member) → language_element_of (get_or field index other) ≡ Some e)
      × IsFirstOfGreatest (offer_nearness field (Some e.range)) offers place

  abbrev Follows : Option ℕ → Option ℕ → Type 0
  Follows None None = ⊤
  Follows (Some index) (Some place) = FindsAt index place
  Follows None (Some place) = ⊥
  Follows (Some index) None = ⊥

  -- the first n members are read, and the leader among them finds this place
  pub record SoFar (left : List Member) (leader : Leader) : Type 0 where
    pub n : ℕ
    pub within : n ≤ length field
    pub rest : left ≡ drop n field
    pub indices : Leader
    pub leading : IsLeading (range_weight field offers) field n indices
    pub score : indices.score ≡ leader.score
    pub follows : Follows indices.place leader.place

  pub so_far_none : SoFar field (record { place = None; score = 0 })
  so_far_none = record {
    n = 0;
    within = omega arith;
    rest = refl;
    indices = record { place = None; score = 0 };
    leading = none_leads (range_weight field offers) field;
    score = refl;
    follows = tt;
  }

  -- the leader goes on with one more member
  step : (n : ℕ) (indices : Leader) (place found : Option ℕ) (member : Member) (rest : List Member)
      → (within : n < length field) → member ≡ get_or field n member
      → IsLeading (range_weight field offers) field n indices → Follows indices.place place
      → (0 < range_weight field offers member
      → (e : ElementParts) × (p : ℕ) × (language_element_of member ≡ Some e) × (found ≡ Some p)
      × IsFirstOfGreatest (offer_nearness field (Some e.range)) offers p) → rest ≡ drop (n + 1) field
      → SoFar rest (led (record { place = place; score = indices.score }) found (range_weight field offers member))
  step n indices place found member rest within is leading follows finds cut =
      by (nat_lt indices.score (range_weight field offers member)) refl
      (leading_on (range_weight field offers) field n member within is indices leading)
    where
      by : (more : Bool) → nat_lt indices.score (range_weight field offers member) ≡ more
          → IsLeading (range_weight field offers) field (n + 1)
          (if more then record { place = Some n; score = range_weight field offers member } else indices) → SoFar rest
          (if more then record { place = found; score = range_weight field offers member }
          else record { place = place; score = indices.score })
      by true e lead =
          let up : indices.score < range_weight field offers member =
          ltb-true indices.score (range_weight field offers member) e in
          let by_member = finds (omega (arith, up)) in
          record {
            n = n + 1;
            within = omega (arith, within);
            rest = cut;
            indices = record { place = Some n; score = range_weight field offers member };
            leading = lead;
            score = refl;
            follows = subst (Follows (Some n)) (sym by_member.3) (
              by_member.0,
              λ other. ap language_element_of (at_place field n other member within ∙ sym is) ∙ by_member.2,
              by_member.4,
            );
          }
      by false e lead = record {
        n = n + 1;
        within = omega (arith, within);
        rest = cut;
        indices = indices;
        leading = lead;
        score = refl;
        follows = follows;
      }

  pub so_far_more : (left rest : List Member) (member : Member) (leader found : Leader) → SoFar left leader
      → left ≡ member ∷ rest → FoundBy field offers member found → SoFar rest (led leader found.place found.score)
  so_far_more left rest member leader found h cut by_member =
      let lengths : suc (length rest) ≡ length (drop h.n field) = ap length (sym cut ∙ h.rest) in
      let low : h.n < length field = omega (arith, lengths, length-drop h.n field) in
      let cons : member ∷ rest ≡ get_or field h.n member ∷ drop (suc h.n) field =
      sym cut ∙ h.rest ∙ drop-cons field h.n member low in
      let head : member ≡ get_or field h.n member = cc cons in
      let tail : rest ≡ drop (suc h.n) field = cc cons in
      let more : suc h.n ≡ h.n + 1 = omega arith in
      let gone : SoFar rest
      (led (record { place = leader.place; score = h.indices.score }) found.place (range_weight field offers member)) =
      step h.n h.indices leader.place found.place member rest low head h.leading h.follows
      (λ some. by_member.place (rw (← by_member.score) at some)) (tail ∙ ap (λ (n : ℕ). drop n field) more) in
      rw (← by_member.score) at (rw h.score at gone)

  ends : (index place : Option ℕ) → Picks (range_weight field offers) field index → Follows index place
      → Finds field offers place
  ends None None picks follows = picks
  ends None (Some place) picks follows = absurd follows
  ends (Some index) None picks follows = absurd follows
  ends (Some index) (Some place) picks follows =
      record { index = index; element = follows.0; first = picks; is = follows.1; nearest = follows.2 }

  pub so_far_end : (left : List Member) (leader : Leader) → SoFar left leader → left ≡ []
      → Finds field offers leader.place
  so_far_end left leader h none =
      let lengths : 0 ≡ length (drop h.n field) = ap length (sym none ∙ h.rest) in
      let whole : h.n ≡ length field = omega (arith, lengths, length-drop h.n field, h.within) in
      ends h.indices.place leader.place
      (leader_is_picked (range_weight field offers) field h.indices (rw whole at h.leading)) h.follows
