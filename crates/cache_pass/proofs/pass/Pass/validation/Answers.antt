use Rattle.http_header.specs.{FieldValue.FieldValue, HeaderMap.{Entries, IsMapClone}}
use Rattle.std.proofs.{Common.{[], ◌∙◌, ◌∷◌, ◌≡◌, ap, Err, List, refl, ℕ}, lemmas.Map.Entries.entries_from_clone}
use Rattle.{cache_policy.specs.Requests.Request, cache_rules.proofs.FullLemmas.passed_full, std.specs.List.AllZip}
use Rattle.cache_pass.proofs.pass.Pass.validation.Goals as goal

same_values : (xs ys : List FieldValue) → AllZip (λ (value copy : FieldValue). copy ≡ value) xs ys → ys ≡ xs
same_values [] [] h = refl
same_values [] (y ∷ ys) h = absurd h
same_values (x ∷ xs) [] h = absurd h
same_values (x ∷ xs) (y ∷ ys) h = cc (h.0, same_values xs ys h.1)

-- a clone of a map is equal to it
same_map : (old new : Entries FieldValue) → IsMapClone (λ (value copy : FieldValue). copy ≡ value) old new → new ≡ old
same_map old new h = entries_from_clone (λ (x y : List ℕ). y ≡ x) (AllZip (λ (value copy : FieldValue). copy ≡ value))
    (λ x y e. e) same_values old new h

pub returns-in_err-set_fields-clause-full : goal.returns-in_err-set_fields-clause-full
returns-in_err-set_fields-clause-full c = λ full.
    let same : c.in_ok-request.request ≡ c.args.self.now.request = same_map _ _ c.in_ok-request.ensures.cases in
    rw (same, c.in_ok-fields.ensures) at (c.in_err-set_fields.ensures.full
    (ap Err (passed_full _ _ c.from_residual-in_err-set_fields.ensures.1 full)))

pub returns-clause-ok : goal.returns-clause-ok
returns-clause-ok c =
    let same : c.in_ok-request.request ≡ c.args.self.now.request = same_map _ _ c.in_ok-request.ensures.cases in
    record {
      key = cc (c.new.ensures.key, c.in_ok-key.ensures.cases);
      method = ap (λ (r : Request). r.method) c.new.ensures.request ∙ c.in_ok-method.ensures.cases;
      fields = λ name. ap (λ (r : Request). r.fields name) c.new.ensures.request
          ∙ (rw (same, c.in_ok-fields.ensures) at (c.in_ok-set_fields.ensures.ok name));
      phase = c.new.ensures.phase;
    }
