use Rattle.{std.proofs.Common.{List, ◌++◌, ap, codes, ◌∙◌}, headers.specs.LineMap.{Field, lines_at}}
use Rattle.decide_cors.specs.{Answer.allows, Fields.vary_sent}
use Rattle.decide_cors.proofs.policy.CorsPolicy.answer.Goals as goal

pub returns : goal.returns
returns c = record {
  kind = c.kind_of-kind.ensures;
  allowed = c.is_allowed-is_allowed.ensures ∙ ap (allows c.kind_of-kind.result) c.in_ok-granted.ensures;
  fields = rw (← c.in_ok-granted.ensures) (rw (← c.is_preflight.ensures) (c.in_ok-push_vary.ensures
      ∙ ap
      (λ (fields : List Field). fields ++ vary_sent c.args.self.now (lines_at c.args.response.now (codes "vary")))
      c.in_ok-fields.ensures));
}
