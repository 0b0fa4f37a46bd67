-- A new route has a pattern of its own.
use Rattle.std.proofs.Common.{◌≡◌, ◌≢◌, ℕ, List, [], ◌∷◌, Option, None, Bool, true, false, cond, refl, sym, subst}
use Rattle.{std.specs.Prelude.Ok, matchit.specs.{Conflict.conflicts, Order.{common_len, placed}, Rows.RowsOf}}
use Rattle.matchit.specs.{Rows.comes_before, Router.{Inserted, RouteOf, nearer, nearest_from}}
use Rattle.matchit.proofs.NearestLemmas.{conflicts-self, from-some, nearer-some}
use Rattle.decide_routes.specs.Routes.{IsDistinct, LacksPattern}

apart : (p t : List ℕ) → conflicts p t ≡ false → t ≢ p
apart p t e same =
    let none : conflicts p p ≡ false = subst (λ (q : List ℕ). conflicts p q ≡ false) same e in
    cc (none, conflicts-self p)

module _ {K : Type 0} where
  -- a pattern that conflicts with none is none of them
  lacks : (p : List ℕ) (b : Option K × ℕ) (rows : RowsOf K) → nearest_from p b rows ≡ None → LacksPattern p rows
  lacks p b [] e = tt
  lacks p b ((t, k) ∷ rows) e = by (conflicts p t) refl e (λ other. lacks p other rows)
    where
      by : (v : Bool) → conflicts p t ≡ v → nearest_from p (cond v (nearer b (common_len p t) k) b) rows ≡ None
          → ((other : Option K × ℕ) → nearest_from p other rows ≡ None → LacksPattern p rows)
          → LacksPattern p ((t, k) ∷ rows)
      by true e none more =
          let found = nearer-some b (common_len p t) k in
          absurd (from-some p (nearer b (common_len p t) k) rows found.0 found.1 none)
      by false e none more = (apart p t e, more b none)

  lacks_placed : (q p : List ℕ) (k : K) (rows : RowsOf K) → p ≢ q → LacksPattern q rows
      → LacksPattern q (placed (p, k) rows)
  lacks_placed q p k [] other all = (other, tt)
  lacks_placed q p k ((t, key) ∷ rows) other all = by (comes_before p t) (lacks_placed q p k rows other all.1)
    where
      by : (v : Bool) → LacksPattern q (placed (p, k) rows)
          → LacksPattern q (cond v ((p, k) ∷ (t, key) ∷ rows) ((t, key) ∷ placed (p, k) rows))
      by true more = (other, all)
      by false more = (all.0, more)

  distinct_placed : (p : List ℕ) (k : K) (rows : RowsOf K) → LacksPattern p rows → IsDistinct rows
      → IsDistinct (placed (p, k) rows)
  distinct_placed p k [] all distinct = (tt, tt)
  distinct_placed p k ((t, key) ∷ rows) all distinct = by (comes_before p t) (distinct_placed p k rows all.1 distinct.1)
    where
      by : (v : Bool) → IsDistinct (placed (p, k) rows)
          → IsDistinct (cond v ((p, k) ∷ (t, key) ∷ rows) ((t, key) ∷ placed (p, k) rows))
      by true more = (all, distinct)
      by false more = (lacks_placed t p k rows (λ same. all.0 (sym same)) distinct.0, more)

pub distinct_inserted : {T : Type 0} (old new : RowsOf (RouteOf T)) (route : RouteOf T) → IsDistinct old
    → Inserted route old new (Ok tt) → IsDistinct new
distinct_inserted old new route distinct inserted = subst IsDistinct (sym inserted.1)
    (distinct_placed route.pattern route old (lacks route.pattern (None, 0) old inserted.0) distinct)
