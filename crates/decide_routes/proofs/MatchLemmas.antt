-- A route that is found matches.
use Rattle.std.proofs.Common.{◌≡◌, ◌⊎◌, ℕ, zero, suc, ◌-◌, ◌<◌, List, [], ◌∷◌, length, drop, take, Option, Some, None}
use Rattle.std.proofs.Common.{Bool, true, false, cond, Contains, refl, sym, ap, subst, ◌∙◌, arith, nat_eq, inl, inr}
use Rattle.std.proofs.{Common.lit<, lemmas.{Bool.Decides.nat_tests, List.take-append-drop}}
use Rattle.std.{proofs.{lemmas.List.Elements.Contains-append_right, Math.Seq.take-length}, specs.Prelude.{◌==◌, ◌&&◌}}
use Rattle.{std.specs.{Prelude.ltb, List.ends_with}, matchit.specs.Rows.{RowsOf, param_token, catch_all_token}}
use Rattle.matchit.specs.Seek.{better, cuts, own, step, or_else, seek, first, param_step, has_slash, with_suffix}
use Rattle.{matchit.specs.Seek.{longest_from, longest_suffix, segment, same_text}, decide_routes.specs.Routes.Matches}
use Rattle.decide_routes.specs.Routes.{Takes}

-- ---- paths

drop_nothing : (n : ℕ) → drop {A = ℕ} n [] ≡ []
drop_nothing zero = refl
drop_nothing (suc n) = refl

one_less : (n : ℕ) → suc n - 1 ≡ n
one_less n = omega arith

-- less than a segment has no slash
inside : (n : ℕ) (path : List ℕ) → n < length (segment path) → has_slash (take n path) ≡ false
inside zero path low = refl
inside (suc n) [] low = absurd (omega (arith, low))
inside (suc n) (b ∷ path) low = by (b == 47) low (inside n path)
  where
    by : (v : Bool) → suc n < length (cond v (b ∷ []) (b ∷ segment path))
        → (n < length (segment path) → has_slash (take n path) ≡ false) → cond v true (has_slash (take n path)) ≡ false
    by true less more = absurd (omega (arith, less))
    by false less more = more (omega (arith, less))

cut_short : (seg suffix : List ℕ) → cuts seg suffix ≡ true → length suffix < length seg
cut_short seg suffix = by (ltb (length suffix) (length seg)) refl
  where
    by : (v : Bool) → ltb (length suffix) (length seg) ≡ v → (v && ends_with nat_eq seg suffix) ≡ true
        → length suffix < length seg
    by true e h = grind (arith, nat_tests)
    by false e h = absurd (cc h)

-- ---- tokens

byte_matches : (b : ℕ) (p path : List ℕ) → Matches p path → Matches (b ∷ p) (b ∷ path)
byte_matches b p path m = by (b == param_token) refl (b == catch_all_token)
  where
    by : (u : Bool) → (b == param_token) ≡ u → (v : Bool) → Takes u v b (Matches p) (b ∷ path)
    by true e v =
        let other : (b == 47) ≡ false = grind (arith, nat_tests) in
        record {
          part = b ∷ [];
          rest = path;
          whole = refl;
          some = lit< tt;
          within = ap (λ (w : Bool). cond w true false) other;
          goes_on = m;
        }
    by false e true = omega arith
    by false e false = (refl, m)

part_matches : (n b : ℕ) (path p : List ℕ) → 0 < n → has_slash (take n (b ∷ path)) ≡ false
    → Matches p (drop (n - 1) path) → Matches (param_token ∷ p) (b ∷ path)
part_matches zero b path p some within m = absurd (omega (arith, some))
part_matches (suc n) b path p some within m = record {
  part = take (suc n) (b ∷ path);
  rest = drop n path;
  whole = sym (take-append-drop (suc n) (b ∷ path));
  some = omega arith;
  within = within;
  goes_on = subst (λ (k : ℕ). Matches p (drop k path)) (one_less n) m;
}

module _ {K : Type 0} where
  -- a suffix that was chosen leaves something of the segment
  longest_short : (seg best : List ℕ) (rows : RowsOf K) → (best ≡ []) ⊎ (length best < length seg)
      → (longest_from seg best rows ≡ []) ⊎ (length (longest_from seg best rows) < length seg)
  longest_short seg best [] h = h
  longest_short seg best ((t, key) ∷ rows) h = longest_short seg (better seg best (segment t)) rows
      (next (ltb (length best) (length (segment t))) (cuts seg (segment t)) refl)
    where
      next : (u v : Bool) → cuts seg (segment t) ≡ v
          → (cond (u && v) (segment t) best ≡ []) ⊎ (length (cond (u && v) (segment t) best) < length seg)
      next true true e = inr (cut_short seg (segment t) e)
      next true false e = h
      next false v e = h

  -- ---- rows

  -- one of these rows
  abbrev pub IsIn : List ℕ → K → RowsOf K → Type 0
  IsIn p k [] = ⊥
  IsIn p k ((t, key) ∷ rest) = ((t ≡ p) × (key ≡ k)) ⊎ IsIn p k rest

  contained : (rows : RowsOf K) (p : List ℕ) (k : K) → IsIn p k rows → Contains rows (p, k)
  contained [] p k i = absurd i
  contained ((t, key) ∷ rest) p k (inl same) = (0, omega arith, cc (same.0, same.1))
  contained ((t, key) ∷ rest) p k (inr more) =
      Contains-append_right ((t, key) ∷ []) rest (p, k) (contained rest p k more)

  own_in : (rows : RowsOf K) (k : K) → own rows ≡ Some k → IsIn [] k rows
  own_in [] k e = absurd (cc e)
  own_in (([], key) ∷ rest) k e = inl (refl, cc e)
  own_in ((x ∷ t, key) ∷ rest) k e = inr (own_in rest k e)

  step_in : (b : ℕ) (rows : RowsOf K) (p : List ℕ) (k : K) → IsIn p k (step b rows) → IsIn (b ∷ p) k rows
  step_in b [] p k i = absurd i
  step_in b (([], key) ∷ rest) p k i = inr (step_in b rest p k i)
  step_in b ((x ∷ t, key) ∷ rest) p k i = by (x == b) refl i (step_in b rest p k)
    where
      by : (v : Bool) → (x == b) ≡ v → IsIn p k (cond v ((t, key) ∷ step b rest) (step b rest))
          → (IsIn p k (step b rest) → IsIn (b ∷ p) k rest) → IsIn (b ∷ p) k ((x ∷ t, key) ∷ rest)
      by true e (inl same) more =
          let token : x ≡ b = grind (arith, nat_tests) in
          inl (ap (λ (u : ℕ). u ∷ t) token ∙ ap (λ (u : List ℕ). b ∷ u) same.0, same.1)
      by true e (inr others) more = inr (more others)
      by false e others more = inr (more others)

  suffix_in : (s : List ℕ) (rows : RowsOf K) (p : List ℕ) (k : K) → IsIn p k (with_suffix s rows) → IsIn p k rows
  suffix_in s [] p k i = absurd i
  suffix_in s ((t, key) ∷ rest) p k i = by (same_text (segment t) s) i (suffix_in s rest p k)
    where
      by : (v : Bool) → IsIn p k (cond v ((t, key) ∷ with_suffix s rest) (with_suffix s rest))
          → (IsIn p k (with_suffix s rest) → IsIn p k rest) → IsIn p k ((t, key) ∷ rest)
      by true (inl same) more = inl same
      by true (inr others) more = inr (more others)
      by false others more = inr (more others)

  -- ---- a parameter

  -- a parameter takes some bytes of a segment
  record TakesSome (rows : RowsOf K) (path p : List ℕ) (k : K) (n : ℕ) : Type 0 where
    pub some : 0 < n
    pub within : has_slash (take n path) ≡ false
    pub is_row : IsIn p k rows

  param_takes : (rows : RowsOf K) (b : ℕ) (path p : List ℕ) (k : K) → IsIn p k (param_step rows (b ∷ path)).1
      → TakesSome rows (b ∷ path) p k (param_step rows (b ∷ path)).0
  unfolding param_step
  param_takes rows b path p k i = by (longest_suffix seg rows) (longest_short seg [] rows (inl refl))
      (ltb 0 (length (longest_suffix seg rows))) refl (has_slash (b ∷ path)) refl i
    where
      seg : List ℕ
      seg = segment (b ∷ path)

      stepped : List ℕ → Bool → Bool → ℕ × RowsOf K
      stepped s u v = cond u (length seg - length s, with_suffix s rows) (cond v (0, []) (length (b ∷ path), rows))

      by : (s : List ℕ) → (s ≡ []) ⊎ (length s < length seg) → (u : Bool) → ltb 0 (length s) ≡ u → (v : Bool)
          → has_slash (b ∷ path) ≡ v → IsIn p k (stepped s u v).1 → TakesSome rows (b ∷ path) p k (stepped s u v).0
      by s (inl none) true e v f i =
          let no : ltb 0 (length {A = ℕ} []) ≡ true = subst (λ (t : List ℕ). ltb 0 (length t) ≡ true) none e in
          absurd (cc no)
      by s (inr short) true e v f i =
          let long : 0 < length s = grind (arith, nat_tests) in
          record {
            some = omega (arith, short);
            within = inside (length seg - length s) (b ∷ path) (omega (arith, short, long));
            is_row = suffix_in s rows p k i;
          }
      by s short false e true f i = absurd i
      by s short false e false f i = record {
        some = omega arith;
        within = ap has_slash (take-length (b ∷ path)) ∙ f;
        is_row = i;
      }

  -- ---- the route that is found

  pub record IsMatched (rows : RowsOf K) (k : K) (path : List ℕ) : Type 0 where
    pub pattern : List ℕ
    pub is_row : IsIn pattern k rows
    pub matches : Matches pattern path

  seek_matches : (path : List ℕ) (skip : ℕ) (rows : RowsOf K) (k : K) → seek skip rows path ≡ Some k
      → IsMatched rows k (drop skip path)
  unfolding seek
  seek_matches [] skip rows k e = record { pattern = []; is_row = own_in rows k e; matches = drop_nothing skip }
  seek_matches (b ∷ path) (suc skip) rows k e = seek_matches path skip rows k e
  seek_matches (b ∷ path) zero rows k e = by (seek 0 (step b rows) path) (seek_matches path 0 (step b rows) k) (
      seek ((param_step (step param_token rows) (b ∷ path)).0 - 1) (param_step (step param_token rows) (b ∷ path)).1
      path
      ) (
      seek_matches path ((param_step (step param_token rows) (b ∷ path)).0 - 1)
      (param_step (step param_token rows) (b ∷ path)).1 k
      ) e
    where
      at_byte : IsMatched (step b rows) k path → IsMatched rows k (b ∷ path)
      at_byte found = record {
        pattern = b ∷ found.pattern;
        is_row = step_in b rows found.pattern k found.is_row;
        matches = byte_matches b found.pattern path found.matches;
      }

      at_param : IsMatched (param_step (step param_token rows) (b ∷ path)).1 k
          (drop ((param_step (step param_token rows) (b ∷ path)).0 - 1) path) → IsMatched rows k (b ∷ path)
      at_param found =
          let takes = param_takes (step param_token rows) b path found.pattern k found.is_row in
          record {
            pattern = param_token ∷ found.pattern;
            is_row = step_in param_token rows found.pattern k takes.is_row;
            matches = part_matches _ b path found.pattern takes.some takes.within found.matches;
          }

      at_end : own (step catch_all_token rows) ≡ Some k → IsMatched rows k (b ∷ path)
      at_end h = record {
        pattern = catch_all_token ∷ [];
        is_row = step_in catch_all_token rows [] k (own_in (step catch_all_token rows) k h);
        matches = omega arith;
      }

      by : (first : Option K) → (first ≡ Some k → IsMatched (step b rows) k path) → (second : Option K)
          → (second ≡ Some k → IsMatched (param_step (step param_token rows) (b ∷ path)).1 k
          (drop ((param_step (step param_token rows) (b ∷ path)).0 - 1) path))
          → or_else first (or_else second (own (step catch_all_token rows))) ≡ Some k → IsMatched rows k (b ∷ path)
      by (Some x) one y two h = at_byte (one h)
      by None one (Some y) two h = at_param (two h)
      by None one None two h = at_end h

  pub first_matches : (rows : RowsOf K) (path : List ℕ) (k : K) → first rows path ≡ Some k
      → (pattern : List ℕ) × Contains rows (pattern, k) × Matches pattern path
  first_matches rows path k e =
      let found = seek_matches path 0 rows k e in
      (found.pattern, contained rows found.pattern k found.is_row, found.matches)
