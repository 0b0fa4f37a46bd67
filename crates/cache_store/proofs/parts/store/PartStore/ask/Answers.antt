use Rattle.std.proofs.{Common.{◌∙◌, subst}, lemmas.{Option.same_Some, Result.IfOk-weaker}}
use Rattle.{cache_policy.specs.Requests.request_of, cache_rules.specs.declared.stored.StoredResponse.StoredResponse}
use Rattle.cache_store.specs.Parts.Answering.{IsAsked}
use Rattle.cache_store.proofs.parts.store.PartStore.ask.Goals as goal

pub returns-in-Some : goal.returns-in-Some
returns-in-Some c = IfOk-weaker c.ask.result _ _ (λ lookup asked stored at. subst (λ (s : StoredResponse). IsAsked
    (request_of c.args.request.now) s lookup) (same_Some _ stored (c.in-Some.ensures ∙ at)) asked) c.ask.ensures
