-- An iterator that yields only some of the items, and passes over the others.
use Rattle.headers_items.proofs.{ItemsLemmas.counting_none, WalkLemmas.{items_left_done, items_left_open}}
use Rattle.headers_items.specs.ItemsState.{BeginsPiece, GivesPiece, ItemsState, NoCut, ScansPiece, items_left}
use Rattle.{headers_items.specs.Places.{items_from, pieces}, headers_syntax.specs.Text.trim, std.proofs.Common.Bool}
use Rattle.std.proofs.Common.{List, Some, [], ap, append_assoc, arith, drop, false, length, map, refl, sym, true, ℕ}
use Rattle.std.proofs.{Common.{⊎_elim, ◌++◌, ◌∙◌, ◌∷◌, ◌≡◌, ◌≢◌}, lemmas.Grind.common_steps}
use Rattle.std.{proofs.lemmas.List.Elements.filter-append, specs.List.filter}
use denote.Ref.{Bor}

-- an iterator went from s to t over items that are not wanted
pub record PassesUnwanted (wanted : List ℕ → Bool) (s t : ItemsState) : Type 0 where
  pub text : t.text ≡ s.text
  pub separator : t.separator ≡ s.separator
  pub begins : t.is_done ≡ false → BeginsPiece s.separator s.text s.start t.start
  pub skipped : List (List ℕ)
  pub split : items_left s ≡ skipped ++ items_left t
  pub passed : filter wanted skipped ≡ []
  pub stays : s.is_done ≡ true → t ≡ s

pub PassesUnwanted-none : (wanted : List ℕ → Bool) (s : ItemsState) → PassesUnwanted wanted s s
PassesUnwanted-none wanted s = grind arith

-- one that gave an item was not done
gave_open : (s t : ItemsState) (item : List ℕ) → items_left s ≡ item ∷ items_left t → s.is_done ≡ false
gave_open s t item e = grind arith

-- at a place a piece is always left
some_piece : (s : List ℕ) (i : ℕ) (ps : List ℕ) → map trim (pieces s i ps) ≢ []
unfolding pieces
some_piece s i [] e = cc e
some_piece s i (p ∷ ps) e = cc e

-- after the last piece nothing is left
last_item : (sep : ℕ) (s : List ℕ) (i : ℕ) (item : List ℕ) (rest : List (List ℕ)) → NoCut sep s i (length s)
    → items_from sep s i ≡ item ∷ rest → rest ≡ []
unfolding pieces
last_item sep s i item rest nocut e = grind (arith, common_steps, drop, counting_none)

-- where a piece ended, the next begins
begins_after : (sep : ℕ) (s : List ℕ) (i j p : ℕ) (item : List ℕ) (rest : List (List ℕ)) → BeginsPiece sep s i j
    → GivesPiece sep s j item p → items_from sep s j ≡ item ∷ rest → rest ≢ [] → BeginsPiece sep s i p
begins_after sep s i j p item rest b g e some =
    ⊎_elim (grind arith) (λ w. absurd (some (last_item sep s j item rest w.0 e))) g

begins_next : (wanted : List ℕ → Bool) (s t u : ItemsState) (item : Bor (List ℕ)) → PassesUnwanted wanted s t
    → ScansPiece t (Some item) u → items_left t ≡ item.now ∷ items_left u → t.is_done ≡ false → u.is_done ≡ false
    → u.start ≡ u.place → BeginsPiece s.separator s.text s.start u.start
begins_next wanted s t u item h f e opn opn' at =
    let some : items_left u ≢ [] = grind (arith, items_left_open u opn', some_piece) in
    let left : items_from s.separator s.text t.start ≡ item.now ∷ items_left u = grind (arith, items_left_open t opn) in
    let gives : GivesPiece s.separator s.text t.start item.now u.place = rw (← h.text, ← h.separator) f.place in
    rw at
    (begins_after s.separator s.text s.start t.start u.place item.now (items_left u) (h.begins opn) gives left some)

pub PassesUnwanted-more : (wanted : List ℕ → Bool) (s t u : ItemsState) (item : Bor (List ℕ))
    → PassesUnwanted wanted s t → ScansPiece t (Some item) u → items_left t ≡ item.now ∷ items_left u
    → (u.is_done ≡ false → u.start ≡ u.place) → wanted item.now ≡ false → PassesUnwanted wanted s u
PassesUnwanted-more wanted s t u item h f e at none = record {
  text = f.text ∙ h.text;
  separator = f.separator ∙ h.separator;
  begins = λ opn. begins_next wanted s t u item h f e (gave_open t u item.now e) opn (at opn);
  skipped = h.skipped ++ item.now ∷ [];
  split = h.split ∙ ap (λ r. h.skipped ++ r) e ∙ sym (append_assoc h.skipped (item.now ∷ []) (items_left u));
  passed = filter-append wanted h.skipped (item.now ∷ []) ∙ rw (h.passed, none) refl;
  stays = λ d. absurd (cc (e, items_left_done t (ap (λ (v : ItemsState). v.is_done) (h.stays d) ∙ d)));
}
