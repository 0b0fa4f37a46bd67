use Rattle.std.proofs.Common.{rules, ◌≡◌, ℕ, false, Some, None, Result, Ok, Err, IfOk, IfErr, inr, subst, sym}
use Rattle.cache_pass.specs.{Steps.HasBegun, declared.{cache.Cache.Cache, pass.Pass.Pass, replying.First.First}}
use Rattle.c_parts.specs.declared.status.Failure.{Failure, TheVariants.Memory}
use Rattle.c_pass.specs.{Caches.IsSameBeside, Outcomes.first_outcome, Status.IsStanding, Waiting.IsPlaced}
use Rattle.c_pass.specs.{Steps.{HasWaited, IsSilent, IsUnstarted, Resumes, Tells}}
use Rattle.c_pass.specs.declared.held.{Place.TheVariants.Apart, Shared.Shared, Stepped.Stepped}
use Rattle.c_pass.specs.declared.telling.PassFacts.{PassFacts}
use Rattle.c_pass.proofs.StatusLemmas.{standing_of}
use Rattle.c_pass.proofs.stepping.resume.Goals as goal

module _ (now : ℕ) (old new : Shared) (before after : Stepped) (first : First) where
  -- the first step is made, and is told, or memory runs out for that
  resumed : (told : Result PassFacts Failure) → HasWaited now old before new after false
      → HasBegun before.pass old.cache now after.pass new.cache (Ok first)
      → IsStanding old.guess now new.cache after.pass first (Some before.standing.course) after.standing
      → after.content ≡ None → IsSameBeside old new
      → IfOk told (λ facts. Tells now new after (first_outcome first) facts
      × IsPlaced after.pass now old.queue new.queue after.place)
      → IfErr told (λ failure. (failure ≡ Memory) × IsSilent after × (after.place ≡ Apart)
      × IsUnstarted after.pass now old.queue new.queue (first_outcome first))
      → Resumes now old before new after told
  resumed (Ok facts) waited begun standing content beside ok err = inr (
    waited,
    record {
      first = first;
      begun = begun;
      tells = ok.0;
      standing = standing;
      content = content;
      place = ok.1;
      beside = beside;
    },
  )
  resumed (Err failure) waited begun standing content beside ok err = inr (
    err.0,
    waited,
    record {
      first = Ok first;
      begun = begun;
      lost = err.3;
      silent = err.1;
      content = content;
      place = err.2;
      beside = beside;
    },
  )

pub returns-in-Ok-Ok : goal.returns-in-Ok-Ok
returns-in-Ok-Ok c =
    let old = c.args.shared.now in
    let before = c.args.stepped.now in
    let new = c.tell_first.new.shared in
    let after = c.tell_first.new.stepped in
    let pass = sym c.tell_first.ensures.pass in
    let cache = sym c.tell_first.ensures.cache in
    let beside = c.tell_first.ensures.beside in
    let found = rw c.in-Ok-Ok.field-0-is at c.in-Ok-Ok.ensures.ok in
    resumed c.args.now old new before after c.in-Ok-Ok.first c.tell_first.result
    (record { number = c.in-Waiting.number; place = search rules; may_wait = search rules })
    (subst (λ (it : Pass). HasBegun before.pass old.cache c.args.now it new.cache (Ok c.in-Ok-Ok.first)) pass
    (subst (λ (it : Cache). HasBegun before.pass old.cache c.args.now c.begin.new.self it (Ok c.in-Ok-Ok.first))
    cache found))
    (standing_of _ _ _ _ _ _ _ _ _ _ cache pass (sym c.tell_first.ensures.standing)
    c.first_standing-stepped.ensures)
    c.tell_first.ensures.content (record { keys = beside.keys; most = beside.most; guess = beside.guess })
    c.tell_first.ensures.ok c.tell_first.ensures.err
