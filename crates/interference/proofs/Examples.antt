-- What runs show.
use Rattle.std.proofs.Common.{◌≡◌, List, [], ◌∷◌, inl, refl}
use Rattle.interference.{specs.Statements.GetsAnothers, specs.Worlds.{Origin, Received, World}}

-- the latest content that a client has received isn't that of the answer to its own request
abbrev pub LatestIsAnothers : Origin → List Received → Type 0
LatestIsAnothers origin [] = ⊥
LatestIsAnothers origin (one ∷ earlier) =
    one.given.answer.content ≡ (origin one.given.version one.asked.request).content → ⊥

pub gets_anothers : (origin : Origin) (w : World) → LatestIsAnothers origin w.received → GetsAnothers origin w
gets_anothers origin w latest = by w.received latest refl
  where
    by : (received : List Received) → LatestIsAnothers origin received → w.received ≡ received → GetsAnothers origin w
    by [] latest e = absurd latest
    by (one ∷ earlier) latest e = record { received = one; has = rw e (inl refl); differs = latest }
