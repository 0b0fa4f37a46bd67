use Rattle.std.proofs.{Common.{rules, ◌≡◌, subst, ◌∙◌}, lemmas.Option.get_or_from_slice_get}
use Rattle.cache_policy.specs.Policies.{policy_of}
use Rattle.cache_policy.specs.Requests.{request_of}
use Rattle.{cache_rules.specs.Selection.IsChosen, cache_rules.specs.declared.stored.StoredResponse.StoredResponse}
use Rattle.cache_store.specs.Lookups.{IsFreshFor}
use Rattle.c_pass.proofs.status.selection.Goals as goal

pub returns-in-Some : goal.returns-in-Some
returns-in-Some c =
    let chosen : IsChosen (request_of c.args.request.now) c.args.stored.now c.in-Some.place = c.in-Some.ensures in
    let same : c.index-stored-place.result ≡ chosen.response = c.index-stored-place.is
    ∙ get_or_from_slice_get c.args.stored.now c.in-Some.place chosen.response c.index-stored-place.result chosen.at in (
      c.in-Some.place,
      chosen,
      c.lifetime_of.result,
      subst
          (λ (it : StoredResponse). IsFreshFor (policy_of c.args.policy.now) c.args.guess it c.lifetime_of.result)
          same c.lifetime_of.ensures,
      search rules,
    )
