use Rattle.std.proofs.{Common.inl, Common.inr, lemmas.Result.IfOk-weaker}
use Rattle.cache_store.specs.Parts.Kept.{limits_of_parts, parts_of, policy_of_parts}
use Rattle.cache_store.proofs.parts.CallLemmas.{alone_recorded, kept_recorded, recorded_step}
use Rattle.cache_store.proofs.parts.MemoryLemmas.{alone_needs, combined_needs, stored_combinable}
use Rattle.cache_store.proofs.parts.store.PartStore.record.Goals as goal

pub returns-in_err-merged-clause-memory : goal.returns-in_err-merged-clause-memory
returns-in_err-merged-clause-memory c =
    combined_needs _ _ _ _ _ (rw c.policy.ensures at c.in-Some.ensures.value) _ c.in_err-merged.ensures.memory

pub returns-in_default-clause-recorded : goal.returns-in_default-clause-recorded
returns-in_default-clause-recorded c = inl (
  inl (rw c.policy.ensures at c.in_default.ensures.value),
  c.forget_changed.ensures.left,
)

pub returns-in-Apart-clause-recorded : goal.returns-in-Apart-clause-recorded
returns-in-Apart-clause-recorded c = IfOk-weaker c.take.result _ _ (alone_recorded (policy_of_parts c.args.self.now)
    (limits_of_parts c.args.self.now) c.args.key.now (parts_of c.args.self.now) c.args.came c.args.reception
    (parts_of c.take.new.self) c.in-Some.extent (rw c.policy.ensures at c.in-Some.ensures.value)
    (rw c.in-Apart.is at c.in_ok-merged.ensures.merged)) c.take.ensures.taken

pub returns-in-Apart-clause-memory : goal.returns-in-Apart-clause-memory
returns-in-Apart-clause-memory c =
    alone_needs _ _ _ _ _ (rw c.policy.ensures at c.in-Some.ensures.value) _ c.take.ensures.memory

pub returns-in-Apart-clause-step : goal.returns-in-Apart-clause-step
returns-in-Apart-clause-step c = recorded_step _ _ _ _ _ _ _ _ (returns-in-Apart-clause-recorded c) c.take.ensures.err

pub returns-in-Stored-clause-recorded : goal.returns-in-Stored-clause-recorded
returns-in-Stored-clause-recorded c = IfOk-weaker c.keep.result _ _
    (kept_recorded (policy_of_parts c.args.self.now) (limits_of_parts c.args.self.now) c.args.key.now
    (parts_of c.args.self.now) c.args.came c.args.reception (parts_of c.keep.new.self) c.in-Stored.part (
      c.in-Some.extent,
      rw c.policy.ensures at c.in-Some.ensures.value,
      inr (rw c.in-Stored.is at c.in_ok-merged.ensures.merged),
    )) c.keep.ensures.kept

pub returns-in-Stored-clause-memory : goal.returns-in-Stored-clause-memory
returns-in-Stored-clause-memory c = combined_needs _ _ _ _ _ (rw c.policy.ensures at c.in-Some.ensures.value) _
    (stored_combinable _ _ _ _ _ (rw c.in-Stored.is at c.in_ok-merged.ensures.merged))

pub returns-in-Stored-clause-step : goal.returns-in-Stored-clause-step
returns-in-Stored-clause-step c = recorded_step _ _ _ _ _ _ _ _ (returns-in-Stored-clause-recorded c) c.keep.ensures.err

pub returns-in-Once-clause-recorded : goal.returns-in-Once-clause-recorded
returns-in-Once-clause-recorded c = (
  c.in-Some.extent,
  rw c.policy.ensures at c.in-Some.ensures.value,
  rw c.in-Once.is at c.in_ok-merged.ensures.merged,
  c.remove.ensures.contents,
)

pub returns-in-Apart-clause-full : goal.returns-in-Apart-clause-full
returns-in-Apart-clause-full c = λ full. inr (inr (
  c.in-Some.extent,
  rw c.policy.ensures at c.in-Some.ensures.value,
  rw c.in-Apart.is at c.in_ok-merged.ensures.merged,
  c.take.ensures.full full,
))

pub returns-in-Stored-clause-full : goal.returns-in-Stored-clause-full
returns-in-Stored-clause-full c = λ full.
    inr (inl (c.in-Stored.part, rw c.in-Stored.is at c.in_ok-merged.ensures.merged, c.keep.ensures.full full))
