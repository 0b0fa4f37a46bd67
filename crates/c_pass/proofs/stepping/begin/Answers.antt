use Rattle.std.proofs.Common.{rules, ◌≡◌, ◌∙◌, ℕ, List, Option, None, Result, Ok, Err, ap, subst, sym, refl, inl, inr}
use Rattle.std.{proofs.lemmas.Result.err_from_is_err_and, specs.Prelude.{alloc_error, string_bytes}}
use Rattle.{std.specs.declared.alloc.AllocError.AllocError, cache_store.specs.History.Call.Looked}
use Rattle.cache_pass.specs.{Effects.{Does, kept_of, settings_of}, Passes.{IsSameRequest, key_of}, Queue.Enters}
use Rattle.cache_pass.specs.{Steps.HasBegun, declared.{cache.Cache.Cache, pass.Pass.Pass, replying.First.First}}
use Rattle.{c_parts.specs.declared.status.Failure.TheVariants.Memory, c_pass.specs.{Steps.Begins, Waiting.IsAhead}}
use Rattle.c_pass.proofs.StatusLemmas.{standing_of}
use Rattle.c_pass.proofs.stepping.begin.Goals as goal

pub returns-in-Some : goal.returns-in-Some
returns-in-Some c = record {
  fields = c.in_ok-fields.fields;
  is_request = search rules;
  pass = c.new-pass.result;
  key = search rules;
  asks = search rules;
  begins = inr (
    record {
      asking = c.begin.new.self;
      first = c.in_ok-first.first;
      begun = subst (λ (found : Result First AllocError). HasBegun c.new-pass.result c.args.shared.now.cache
          c.args.now c.begin.new.self c.begin.new.cache found) c.in_ok-first.was c.in-Ok.ensures.ok;
      number = c.in-Some.number;
      ahead = search rules;
      place = search rules;
      same = subst (λ (pass : Pass). IsSameRequest c.begin.new.self pass)
          (sym c.stepped_at-stepped.ensures.pass) c.anew.ensures.request;
      began = search rules;
      silent = c.stepped_at-stepped.ensures.silent;
      content = c.stepped_at-stepped.ensures.content;
      queue = refl;
      standing = standing_of _ _ _ _ _ _ _ _ _ _ refl refl (sym c.stepped_at-stepped.ensures.standing)
          c.first_standing-found.ensures;
      beside = record { keys = refl; most = refl; guess = refl };
    },
    c.waiting.ensures,
  );
}

pub returns : goal.returns
returns c =
    let made = c.in_ok-facts.ensures.pass ∙ c.stepped_at-stepped-2.ensures.pass in
    record {
      fields = c.in_ok-fields.fields;
      is_request = search rules;
      pass = c.new-pass.result;
      key = search rules;
      asks = search rules;
      begins = inl (
        subst (λ (pass : Pass). IsAhead c.args.shared.now.queue pass c.args.now None) (sym made)
            (subst (λ (found : Option ℕ). IsAhead c.args.shared.now.queue c.begin.new.self c.args.now found)
            c.in-None.is c.ahead.ensures),
        record {
          first = c.in_ok-first.first;
          begun = subst (λ (pass : Pass). HasBegun c.new-pass.result c.args.shared.now.cache c.args.now pass
              c.tell_first.new.shared.cache (Ok c.in_ok-first.first)) (sym made)
              (subst (λ (cache : Cache). HasBegun c.new-pass.result c.args.shared.now.cache c.args.now
              c.begin.new.self cache (Ok c.in_ok-first.first)) (sym c.in_ok-facts.ensures.cache)
              (subst (λ (found : Result First AllocError). HasBegun c.new-pass.result c.args.shared.now.cache
              c.args.now c.begin.new.self c.begin.new.cache found) c.in_ok-first.was c.in-Ok.ensures.ok));
          tells = search rules;
          content = search rules;
          place = search rules;
          standing = standing_of _ _ _ _ _ _ _ _ _ _ (sym c.in_ok-facts.ensures.cache) (sym made)
              (sym (c.in_ok-facts.ensures.standing ∙ c.stepped_at-stepped-2.ensures.standing))
              c.first_standing-found.ensures;
          beside = record { keys = search rules; most = search rules; guess = search rules };
        },
      );
    }

pub returns-in_err-facts : goal.returns-in_err-facts
returns-in_err-facts c =
    let answer = c.from_residual-in_err-facts in
    let error = err_from_is_err_and answer.result answer.ensures.1 in
    let lost = c.in_err-facts.ensures.err in
    let is : answer.result ≡ Err Memory = cc (error.1, error.2, lost.0) in
    let made = c.in_err-facts.ensures.pass ∙ c.stepped_at-stepped-2.ensures.pass in
    let begun = c.in-Ok.ensures.ok in
    let key : key_of c.new-pass.result ≡ c.args.request.now.target.now = search rules in
    subst (Begins c.args.request.now c.args.now c.args.shared.now c.tell_first.new.shared) (sym is) (inr (
      refl,
      (c.in_ok-fields.fields, search rules),
      inr (
          record {
            does = subst (λ (target : List ℕ). Does (settings_of c.args.shared.now.cache) (Looked target)
                (kept_of c.args.shared.now.cache) (kept_of c.tell_first.new.shared.cache)) key
                (subst (λ (cache : Cache). Does (settings_of c.args.shared.now.cache)
                (Looked (key_of c.new-pass.result)) (kept_of c.args.shared.now.cache) (kept_of cache))
                (sym c.in_err-facts.ensures.cache) begun.does);
            settings = ap settings_of c.in_err-facts.ensures.cache ∙ begun.settings;
            queue = elim lost.3 [
              | inl told ↦ inl told.1
              | inr unplaced ↦ inr (
                Err alloc_error,
                subst (λ (target : List ℕ). Enters target c.args.now c.args.shared.now.queue
                    c.tell_first.new.shared.queue (Err alloc_error))
                    (ap key_of made ∙ ap string_bytes begun.same.key ∙ key) unplaced.1,
              )
            ];
            beside = record { keys = search rules; most = search rules; guess = search rules };
          }
          ),
    ))
