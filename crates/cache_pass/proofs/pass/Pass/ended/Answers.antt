use Rattle.std.proofs.Common.{◌∙◌, inl, List, refl, subst, sym, ℕ}
use Rattle.cache_pass.specs.{Effects.{kept_of, settings_of}, Keeping.IsKept}
use Rattle.cache_pass.proofs.pass.Pass.ended.Goals as goal

pub returns-in-Ok-clause-ok : goal.returns-in-Ok-clause-ok
returns-in-Ok-clause-ok c = record {
  asked = c.in-Passing.asked;
  status = c.in-Passing.status;
  response = c.in-Passing.response;
  passing = sym c.replace.ensures.value ∙ c.in-Passing.is;
  calls = c.keep.ensures.kept.0;
  closed = inl (
    (cc),
    (
      c.in-Ok.came,
      record {
        method = c.in-Ok.ensures.method;
        request = c.in-Ok.ensures.request;
        status_came = c.in-Ok.ensures.status_came;
        response_came = c.in-Ok.ensures.response_came;
        content_came = c.in-Ok.ensures.content_came;
        requested_at = c.in-Ok.ensures.requested_at;
        received_at = c.in-Ok.ensures.received_at;
      },
      subst (λ (k : List ℕ). IsKept (settings_of c.args.cache.now) k c.in-Ok.came c.in-Passing.asked.clock
          (kept_of c.args.cache.now) (kept_of c.keep.new.self) c.keep.ensures.kept.0 c.keep.result)
          c.as_str.ensures.value c.keep.ensures.kept.1,
    ),
  );
  settings = c.keep.ensures.settings;
  same = record { key = refl; method = refl; request = refl };
  phase = c.replace.ensures.after;
}
