-- What the calls of an iterator yield, all together.
use Rattle.{headers_items.specs.ItemsState.{ItemsState, Walks}, std.proofs.Common.{List, Option, ap, arith, length}}
use Rattle.std.proofs.{Common.◌≡◌, iter.runs.Sources.from_front, lemmas.Iterator.YieldsList}
use Rattle.std.{proofs.lemmas.Iterator.Consumers.YieldsList-from_shown, specs.Iterator.Runs.{EveryRun, ItemsMapTo}}

module _ {A B : Type 0} {view : A → B} {rest : ItemsState → List B}
    {Scans : ItemsState → Option A → ItemsState → Type 0} where
  -- the items of a run show what was left, in order
  pub walk_runs : EveryRun (Walks view rest Scans) (λ p. ItemsMapTo p view (rest p.from))
  walk_runs = from_front (Walks view rest Scans) view rest (λ s t h. ap length h.gives.0) (λ s x t h. h.gives)

  -- an iterator yields what is left
  pub YieldsList-from_walk : {s : ItemsState} {all : List B} → rest s ≡ all
      → YieldsList (Walks view rest Scans) view s all
  YieldsList-from_walk {s} e = grind (arith, YieldsList-from_shown)
