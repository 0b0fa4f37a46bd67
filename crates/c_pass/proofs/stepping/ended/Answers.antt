use Rattle.std.proofs.Common.{rules, ◌≡◌, ℕ, Bool, true, false, List, [], Option, Result, Err, inl, inr, refl}
use Rattle.std.{proofs.{Common.{subst, sym}, lemmas.Result.err_from_is_err_and}, specs.Prelude.{◌&&◌, is_some}}
use Rattle.std.specs.{Prelude.unwrap_or, declared.alloc.AllocError.AllocError}
use Rattle.cache_rules.specs.declared.storing.Reception.{Reception, TheVariants.{Complete, Incomplete}}
use Rattle.cache_pass.specs.{Steps.HasEnded, declared.{cache.Cache.Cache, pass.Pass.Pass}}
use Rattle.{c_parts.specs.declared.status.Failure.TheVariants.Memory, c_pass.specs.Steps.{Ends, IsContentStored}}
use Rattle.c_pass.specs.Steps.{content_of, reception_of}
use Rattle.c_pass.proofs.stepping.ended.Goals as goal

module _ (old new : Pass) (before after : Cache) (now : ℕ) (number : Result (Option ℕ) AllocError) where
  -- of a pass that ends as if not all came, the content doesn't count
  unstored : (content kept : List ℕ) → HasEnded old before content Incomplete now new after number
      → HasEnded old before kept Incomplete now new after number
  unstored content kept h = record {
    asked = h.asked;
    status = h.status;
    response = h.response;
    passing = h.passing;
    calls = h.calls;
    closed = elim h.closed [
      | inl is ↦ absurd (cc is.0)
      | inr is ↦ inr is
    ];
    settings = h.settings;
    same = h.same;
    phase = h.phase;
  }

  -- memory didn't run out for the content
  ended-as : (kept : Option (List ℕ)) (whole : Bool) (content : List ℕ) (given : Reception)
      → IsContentStored kept whole false content given → HasEnded old before content given now new after number
      → HasEnded old before (unwrap_or kept []) (reception_of whole) now new after number
  ended-as kept true content given (is, complete) h =
      subst (λ (k : Option (List ℕ)). HasEnded old before (unwrap_or k []) Complete now new after number) (sym is)
      (subst (λ (r : Reception). HasEnded old before content r now new after number) complete h)
  ended-as kept false content given (lost, incomplete) h = unstored content (unwrap_or kept [])
      (subst (λ (r : Reception). HasEnded old before content r now new after number) incomplete h)

pub returns-in_err-number-in-Ok : goal.returns-in_err-number-in-Ok
returns-in_err-number-in-Ok c =
    let answer = c.from_residual in
    let error = err_from_is_err_and answer.result answer.ensures.1 in
    let is : answer.result ≡ Err Memory = cc (error.1, error.2) in
    let ended = ended-as _ _ _ _ _ _ (content_of c.args.stepped.now)
    (c.args.is_complete && is_some c.args.stepped.now.content) _ _
    (rw (c.replace.ensures.value, c.if-is_lost.false) at c.content_stored-content.ensures) c.in-Ok.ensures.ok in
    subst (Ends c.args.now c.args.shared.now c.args.stepped.now _ _ c.args.is_complete) (sym is) (inr (
      refl,
      record {
        ended = subst (λ (n : Result (Option ℕ) AllocError). HasEnded c.args.stepped.now.pass c.args.shared.now.cache
            (unwrap_or (content_of c.args.stepped.now) [])
            (reception_of (c.args.is_complete && is_some c.args.stepped.now.content)) c.args.now c.ended.new.self
            c.ended.new.cache n) c.in_err-number-in-Ok.was ended;
        content = search rules;
        place = search rules;
        shown = refl;
        text = refl;
        standing = refl;
        beside = record { keys = refl; most = refl; guess = refl };
      },
    ))

pub returns : goal.returns
returns c = record {
  ended = subst (λ (n : Result (Option ℕ) AllocError). HasEnded c.args.stepped.now.pass c.args.shared.now.cache
      (unwrap_or (content_of c.args.stepped.now) [])
      (reception_of (c.args.is_complete && is_some c.args.stepped.now.content)) c.args.now c.ended.new.self
      c.ended.new.cache n) c.in_ok-number-in-Ok.was (ended-as _ _ _ _ _ _ (content_of c.args.stepped.now)
      (c.args.is_complete && is_some c.args.stepped.now.content) _ _
      (rw (c.replace.ensures.value, c.if-is_lost.false) at c.content_stored-content.ensures) c.in-Ok.ensures.ok);
  content = search rules;
  place = search rules;
  shown = search rules;
  text = search rules;
  standing = search rules;
  beside = record { keys = search rules; most = search rules; guess = search rules };
}
