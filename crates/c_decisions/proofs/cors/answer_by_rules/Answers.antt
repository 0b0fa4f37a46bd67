use Rattle.{std.proofs.Common.{List, ℕ, Result, Ok, Err, inr}, decide_cors.specs.Policy.Policy}
use Rattle.{c_parts.specs.declared.status.Failure.Failure, c_decisions.specs.Cors.{Shares, SharesBy}}
use Rattle.c_decisions.specs.{Rules.IsPolicyFor, declared.cors.PolicyAnswer.PolicyAnswer}
use Rattle.c_decisions.specs.declared.{request.RequestTexts.RequestTexts, rules.Rules.Rules}
use Rattle.c_decisions.proofs.cors.answer_by_rules.Goals as goal

Shares-from_policy : (given : Rules) (policy : Policy) (request : RequestTexts) (response : List ℕ)
    (result : Result PolicyAnswer Failure) → IsPolicyFor given policy → SharesBy policy request response result
    → Shares given request response result
Shares-from_policy given policy request response (Ok shared) is by = (policy, is, by)
Shares-from_policy given policy request response (Err failure) is by = inr by

pub returns : goal.returns
returns c = Shares-from_policy c.args.rules.now c.in_ok-policy.policy c.args.request.now c.args.response.now
    c.answer_by.result c.in_ok-policy.ensures c.answer_by.ensures
