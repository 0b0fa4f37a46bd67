-- How `OfLines` is built call by call, and what a caller reads of it.
use Rattle.{headers_syntax.specs.{Lines.{Line, lines_of}, OfLines.OfLines}, http_header.specs.FieldValue.FieldValue}
use Rattle.std.proofs.Common.{Bool, IsTrue, List, None, Option, Some, [], ap, arith, false, map, refl, subst, sym, true}
use Rattle.std.proofs.{Common.{◌++◌, ◌∷◌, ◌≡◌}, lemmas.{Grind.common_steps, List.{append_assoc, map-append}}}
use Rattle.std.{proofs.lemmas.List.nil_from_length, specs.{Bool.MatchBool, Iterator.{Yields, YieldsFirstBy}}}
use Rattle.std.specs.{Iterator.YieldsThen, Slice.Iter.{iter_rest, iter_steps}, declared.slice.Iter.Iter}
use denote.Ref.{Bor}

module _ {S A : Type 0} (shown : A → FieldValue) (steps : S → Option A → S → Type 0) where
  -- no call was made
  pub OfLines-stop : (s : S) (P : List Line → Type 0) → ((lines : List Line) → P lines) → OfLines shown steps s s P
  OfLines-stop s P h = record { items = []; ended = false; calls = refl; holds = λ rest _. h rest }

  -- a call gave `None`, and no other was made
  pub OfLines-none : (s t : S) (P : List Line → Type 0) → steps s None t → P [] → OfLines shown steps s t P
  OfLines-none s t P call h =
      record { items = []; ended = true; calls = (s, refl, call); holds = λ rest e. subst P (sym (e refl)) h }

  -- a call gave an item, and the others gave what follows
  pub OfLines-some : (s j t : S) (x : A) (P : List Line → Type 0) → steps s (Some x) j
      → OfLines shown steps j t (λ lines. P ((shown x).bytes ∷ lines)) → OfLines shown steps s t P
  OfLines-some s j t x P call g = by g.ended g.calls g.holds
    where
      by : (ended : Bool) → MatchBool ended (YieldsThen steps j g.items None t) (Yields steps j g.items t)
          → ((rest : List Line) → (IsTrue ended → rest ≡ []) → P
          ((shown x).bytes ∷ (map (λ item. (shown item).bytes) g.items ++ rest))) → OfLines shown steps s t P
      by true calls holds =
          record { items = x ∷ g.items; ended = true; calls = (calls.0, (j, call, calls.1), calls.2); holds = holds }
      by false calls holds = record { items = x ∷ g.items; ended = false; calls = (j, call, calls); holds = holds }

  pub OfLines-weaker : (s t : S) (P Q : List Line → Type 0) → OfLines shown steps s t P
      → ((lines : List Line) → P lines → Q lines) → OfLines shown steps s t Q
  OfLines-weaker s t P Q g weaker = grind arith

  -- one call was made, and P ties its answer to the lines
  pub OfLines-next : (P : Option A → List Line → Type 0) → P None [] → ((x : A) (lines : List Line) → P (Some x)
      ((shown x).bytes ∷ lines)) → (s t : S) (r : Option A) → steps s r t → OfLines shown steps s t (P r)
  OfLines-next x1 none some s t x6 call = grind (arith, OfLines-none, OfLines-some, OfLines-stop)

  -- a call more
  yields_more : (s t u : S) (items : List A) (x : A) → Yields steps s items t → steps t (Some x) u
      → Yields steps s (items ++ x ∷ []) u
  yields_more s t u [] x e call = (u, subst (λ (j : S). steps j (Some x) u) (sym e) call, refl)
  yields_more s t u (y ∷ items) x calls call = (calls.0, calls.1, yields_more calls.0 t u items x calls.2 call)

  -- calls led from s to t and gave items, and P holds of their lines
  pub record OfLinesSoFar (s t : S) (P : List Line → Type 0) : Type 0 where
    pub items : List A
    pub calls : Yields steps s items t
    pub holds : P (map (λ item. (shown item).bytes) items)

  pub OfLinesSoFar-start : (s : S) (P : List Line → Type 0) → P [] → OfLinesSoFar s s P
  OfLinesSoFar-start s P h = record { items = []; calls = refl; holds = h }

  pub OfLinesSoFar-more : (s t u : S) (x : A) (P Q : List Line → Type 0) → OfLinesSoFar s t P → steps t (Some x) u
      → ((lines : List Line) → P lines → Q (lines ++ (shown x).bytes ∷ [])) → OfLinesSoFar s u Q
  OfLinesSoFar-more s t u x P Q so_far call more = grind (arith, common_steps, yields_more, map-append)

  -- the last call gave `None`
  pub OfLines-ended : (s t u : S) (P Q : List Line → Type 0) → OfLinesSoFar s t P → steps t None u
      → ((lines : List Line) → P lines → Q lines) → OfLines shown steps s u Q
  OfLines-ended s t u P Q so_far call h = grind (arith, common_steps, map)

  -- the last call gave an item, and no other was made
  pub OfLines-stopped : (s t u : S) (x : A) (P Q : List Line → Type 0) → OfLinesSoFar s t P → steps t (Some x) u
      → ((lines rest : List Line) → P lines → Q (lines ++ (shown x).bytes ∷ rest)) → OfLines shown steps s u Q
  OfLines-stopped s t u x P Q so_far call h =
      let more = OfLinesSoFar-more s t u x P (λ lines. (rest : List Line) → Q (lines ++ rest)) so_far call
      (λ lines p rest. subst Q (sym (append_assoc lines ((shown x).bytes ∷ []) rest)) (h lines rest p)) in
      record { items = more.items; ended = false; calls = more.calls; holds = λ rest _. more.holds rest }

  -- an iterator whose state shows the values that are left
  module _ (rest : S → List FieldValue) (shows : (s : S) (r : Option A) (t : S) → steps s r t
      → YieldsFirstBy shown rest s r t) where
    left_after : (s t : S) (items : List A) → Yields steps s items t
        → lines_of (rest s) ≡ map (λ item. (shown item).bytes) items ++ lines_of (rest t)
    left_after s t [] e = ap (λ (j : S). lines_of (rest j)) e
    left_after s t (x ∷ items) calls = grind (arith, left_after calls.0 t items calls.2)

    -- its list of lines is known, so P holds of it
    pub OfLines-all : (s t : S) (P : List Line → Type 0) → OfLines shown steps s t P → P (lines_of (rest s))
    OfLines-all s t P g = by g.ended g.calls g.holds
      where
        by : (ended : Bool) → MatchBool ended (YieldsThen steps s g.items None t) (Yields steps s g.items t)
            → ((more : List Line) → (IsTrue ended → more ≡ []) → P (map (λ item. (shown item).bytes) g.items ++ more))
            → P (lines_of (rest s))
        by true calls holds = let none = (shows calls.0 None t calls.2).0 in
            subst P (sym (left_after s calls.0 g.items calls.1))
            (holds (lines_of (rest calls.0)) (λ _. ap lines_of none))
        by false calls holds =
            subst P (sym (left_after s t g.items calls)) (holds (lines_of (rest t)) (λ e. absurd (cc e)))

-- what an iterator over references shows
abbrev pub shown_value : Bor FieldValue → FieldValue
shown_value item = item.now

-- the iterator of a slice shows what is left
slice_shows : (s : Iter FieldValue) (r : Option (Bor FieldValue)) (t : Iter FieldValue) → iter_steps s r t
    → YieldsFirstBy shown_value iter_rest s r t
slice_shows s x2 t call = grind (arith, common_steps, nil_from_length)

-- so what a call over a slice's iterator was given holds of the slice
pub OfLines-slice : (s t : Iter FieldValue) (P : List Line → Type 0) → OfLines shown_value iter_steps s t P
    → P (lines_of (iter_rest s))
OfLines-slice s t P g = OfLines-all shown_value iter_steps iter_rest slice_shows s t P g
