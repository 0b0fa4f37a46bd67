use Rattle.std.proofs.Common.{rules, ◌≡◌, List, refl, subst}
use Rattle.cache_policy.specs.{Policies.policy_of, Requests.Request}
use Rattle.{cache_rules.specs.declared.stored.StoredResponse.StoredResponse, c_pass.specs.Status.IsReason}
use Rattle.cache_pass.specs.{Effects.{settings_of, stored_at}, Passes.{key_of, request_of_pass}}
use Rattle.c_pass.proofs.StatusLemmas.{selection_of}
use Rattle.c_pass.proofs.status.first_standing.Goals as goal

pub returns : goal.returns
returns c =
    let stored : c.responses-stored.result.now ≡ stored_at (key_of c.args.pass.now) c.args.shared.now.cache =
    search rules in
    let why = subst
    (λ (it : List StoredResponse). IsReason c.head-request.result.method.now it c.selection-selected.result
    c.reason-why.result) stored c.reason-why.ensures in
    record {
      selected = c.selection-selected.result;
      is_selected = selection_of (policy_of c.policy.result) (settings_of c.args.shared.now.cache).policy _ _
          (request_of_pass c.args.pass.now) _ _ (stored_at (key_of c.args.pass.now) c.args.shared.now.cache) _
          (search rules) c.head-request.ensures stored c.selection-selected.ensures;
      reason = c.reason-why.result;
      is_reason = subst (λ (it : Request). IsReason it.method
          (stored_at (key_of c.args.pass.now) c.args.shared.now.cache) c.selection-selected.result
          c.reason-why.result) c.head-request.ensures why;
      course = search rules;
      freshness = search rules;
      came = refl;
      collapsed = search rules;
    }
