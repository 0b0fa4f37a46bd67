use Rattle.{cache_policy.specs.Requests.{Request, request_of}, std.proofs.Common.{◌∙◌, ap, List, refl, subst, ℕ}}
use Rattle.cache_pass.specs.Effects.{Does, kept_of, settings_of, stored_at}
use Rattle.{cache_pass.specs.{Passes.{key_of, phase_first}, Replies.IsFirstOf}, cache_store.specs.History.Call.Looked}
use Rattle.cache_pass.proofs.pass.Pass.begin.Goals as goal

pub returns-clause-ok : goal.returns-clause-ok
returns-clause-ok c = record {
  began = c.if-not-is_new.ensures;
  answer = subst (λ (r : Request). IsFirstOf (settings_of c.args.cache.now) r c.args.now
      (stored_at (key_of c.args.self.now) c.first-first.new.self) c.first-first.result) c.head.ensures
      (subst (λ (k : List ℕ). IsFirstOf (settings_of c.args.cache.now) (request_of c.head.result) c.args.now
      (stored_at k c.first-first.new.self) c.first-first.result) c.as_str.ensures.value c.first-first.ensures.first);
  does = subst (λ (k : List ℕ). Does (settings_of c.args.cache.now) (Looked k) (kept_of c.args.cache.now)
      (kept_of c.first-first.new.self)) c.as_str.ensures.value c.first-first.ensures.does;
  settings = c.first-first.ensures.settings;
  same = record { key = refl; method = refl; request = refl };
  phase = c.phase_first.ensures ∙ ap (phase_first c.first-first.result c.args.now) c.clock.ensures;
}
