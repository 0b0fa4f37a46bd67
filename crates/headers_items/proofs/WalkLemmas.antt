-- A step of an iterator over items.
use Rattle.headers_items.proofs.{ItemsLemmas.{items_last, items_next}, PlacesLemmas.hits-le-marks}
use Rattle.headers_items.specs.ItemsState.{GivesPiece, IsNextCut, ItemsState, NoCut, ScansPiece, items_left, walk_over}
use Rattle.headers_items.specs.{Places.{hits, items_from, marks}, ScanState.end_search}
use Rattle.{headers_syntax.specs.Text.{is_text, trim}, std.proofs.Common.{Bool, List, Some, [], arith, drop, false}}
use Rattle.std.proofs.{Common.{length, refl, true, ℕ, ⊎_elim, ◌+◌, ◌∷◌, ◌≡◌, ◌≤◌}, lemmas.Grind.common_steps}
use Rattle.std.{proofs.lemmas.List.take_rest, specs.List.slice_range}
use denote.Ref.{Bor}

-- over a value that is no text
pub walk_over-no_text : (sep : ℕ) (s : List ℕ) → is_text s ≡ false
    → walk_over sep s
    ≡ record { text = []; separator = sep; start = 0; is_done = true; place = 0; is_ended = false; searches = 0 }
walk_over-no_text sep s h = rw h refl

pub items_left_open : (s : ItemsState) → s.is_done ≡ false → items_left s ≡ items_from s.separator s.text s.start
items_left_open s h = rw h refl

pub items_left_done : (s : ItemsState) → s.is_done ≡ true → items_left s ≡ []
items_left_done s h = rw h refl

-- a piece that ends at a cut
pub walk_more : (s t : ItemsState) (item : List ℕ) (q : ℕ) → s.is_done ≡ false
    → IsNextCut s.separator s.text s.start q → item ≡ trim (slice_range s.text s.start q) → t.is_done ≡ false
    → t.separator ≡ s.separator → t.text ≡ s.text → t.start ≡ q + 1 → items_left s ≡ item ∷ items_left t
walk_more s t item q opn f e d a b p = grind (arith, common_steps, items_left_open, items_next)

-- the last piece
pub walk_last : (s t : ItemsState) (item : List ℕ) → s.is_done ≡ false → s.start ≤ length s.text
    → NoCut s.separator s.text s.start (length s.text) → item ≡ trim (slice_range s.text s.start (length s.text))
    → t.is_done ≡ true → items_left s ≡ item ∷ items_left t
walk_last s t item opn l f e d =
    grind (arith, common_steps, items_left_open, items_last, drop, items_left_done, take_rest)

-- a cut of equal texts from equal places
pub IsNextCut-same : (sep sep' : ℕ) (s s' : List ℕ) (i i' q q' : ℕ) → IsNextCut sep s i q → sep' ≡ sep → s' ≡ s
    → i' ≡ i → q' ≡ q → IsNextCut sep' s' i' q'
IsNextCut-same sep sep' s s' i i' q q' f a b c d = rw (a, b, c, d) f

pub NoCut-same : (sep sep' : ℕ) (s s' : List ℕ) (i i' : ℕ) → NoCut sep s i (length s) → sep' ≡ sep → s' ≡ s → i' ≡ i
    → NoCut sep' s' i' (length s')
NoCut-same sep sep' s s' i i' f a b c = rw (a, b, c) f

pub le_same : (i i' : ℕ) (s s' : List ℕ) → i ≤ length s → i' ≡ i → s' ≡ s → i' ≤ length s'
le_same i i' s s' l a b = rw (a, b) l

-- what an iterator yields, from where it read and trimmed it
pub piece_trimmed : (item bytes text text' : List ℕ) (low high start start' end : ℕ)
    → item ≡ slice_range text low high → slice_range bytes low high ≡ trim (slice_range bytes start end)
    → bytes ≡ text → text' ≡ text → start' ≡ start → item ≡ trim (slice_range text' start' end)
piece_trimmed item bytes text text' low high start start' end a b c d e = rw (d, e, a, ← c, b) refl

-- a bound on the searches of an iterator
pub searches_bound : (sep : ℕ) (s : List ℕ) (p n : ℕ) (e : Bool) → p ≤ length s → n ≡ hits sep s p + end_search e
    → n ≤ marks sep s + 1
searches_bound sep s p n true l h = omega (arith, h, hits-le-marks sep s p l)
searches_bound sep s p n false l h = omega (arith, h, hits-le-marks sep s p l)

pub piece_reaches : (sep : ℕ) (s : List ℕ) (i : ℕ) (item : List ℕ) (p : ℕ) → GivesPiece sep s i item p → p ≤ length s
piece_reaches sep s i item p g =
    ⊎_elim (λ x. let h = x.1.high in let e = x.3 in omega (arith, e)) (λ x. let e = x.2 in omega (arith, e)) g

pub walk_bound : (s t : ItemsState) (item : Bor (List ℕ)) → ScansPiece s (Some item) t
    → t.searches ≤ marks t.separator t.text + 1
walk_bound s t item f = searches_bound t.separator t.text t.place t.searches t.is_ended
    (rw f.text (piece_reaches s.separator s.text s.start item.now t.place f.place)) f.searches

pub state_bound : (s : ItemsState) (sep : ℕ) (text : List ℕ) (p n : ℕ) (e : Bool) → p ≤ length text → n ≡ hits sep text
    p + end_search e → s.separator ≡ sep → s.text ≡ text → s.searches ≡ n → s.searches ≤ marks s.separator s.text + 1
state_bound s sep text p n e l h a b d = rw (a, b, d) (searches_bound sep text p n e l h)
