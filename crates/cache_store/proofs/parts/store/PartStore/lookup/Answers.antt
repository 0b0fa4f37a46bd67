use Rattle.std.proofs.{Common.inl, Common.inr, Common.refl, lemmas.Result.IfOk-weaker}
use Rattle.cache_store.proofs.parts.CallLemmas.{asked_lookup, reused_lookup}
use Rattle.cache_policy.specs.declared.decision.Decision.TheVariants as decisions
use Rattle.cache_store.proofs.parts.store.PartStore.lookup.Goals as goal

pub returns-in-Some-clause-answer : goal.returns-in-Some-clause-answer
returns-in-Some-clause-answer c = IfOk-weaker c.reused.result _ _ (λ lookup is. reused_lookup
    _ _ _ _ _ _ _ _ c.in-Some.ensures (rw c.in-Serve.is at c.in_ok-number.ensures.answer) lookup is) c.reused.ensures

pub returns-in-ServeAndRevalidate-clause-answer : goal.returns-in-ServeAndRevalidate-clause-answer
returns-in-ServeAndRevalidate-clause-answer c =
    let served = rw c.in-ServeAndRevalidate.is at c.in_ok-number.ensures.answer in
    IfOk-weaker c.ask.result _ _ (λ lookup is. asked_lookup _ _ _ _ _ _ decisions.ServeAndRevalidate
    (inl refl) served.found served.shown lookup is) c.ask.ensures

pub returns-in-Validate-clause-answer : goal.returns-in-Validate-clause-answer
returns-in-Validate-clause-answer c = let asked = rw c.in-Validate.is at c.in_ok-number.ensures.answer in
    IfOk-weaker c.ask-in-Validate.result _ _ (λ lookup is. asked_lookup _ _ _ _ _ _ decisions.Revalidate
    (inr (inl refl)) asked.found asked.shown lookup is) c.ask-in-Validate.ensures

pub returns-in-ValidateOrServe-clause-answer : goal.returns-in-ValidateOrServe-clause-answer
returns-in-ValidateOrServe-clause-answer c = let asked = rw c.in-ValidateOrServe.is at c.in_ok-number.ensures.answer in
    IfOk-weaker c.ask-in-ValidateOrServe.result _ _ (λ lookup is. asked_lookup _ _ _ _ _ _ decisions.RevalidateOrServe
    (inr (inr refl)) asked.found asked.shown lookup is) c.ask-in-ValidateOrServe.ensures
