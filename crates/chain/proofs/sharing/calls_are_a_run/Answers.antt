use Rattle.std.proofs.Common.{inl, inr}
use Rattle.chain.proofs.HistoryLemmas.{follows}
use Rattle.chain.proofs.sharing.calls_are_a_run.Goals as goal

pub returns : goal.returns
returns c policy limits target_of origin clients calls contents cache shared told ran =
    let h = follows policy shared target_of origin clients cache calls told in (
      h.events,
      λ target stored request under get fits. elim (h.holds target stored
          (c.calls_justify_what_is_stored.ensures policy limits calls contents ran target stored under) get) [
            | inl held ↦ held
            | inr none ↦ absurd (none request fits)
          ],
    )
