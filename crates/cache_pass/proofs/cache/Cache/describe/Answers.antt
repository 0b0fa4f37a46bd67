use Rattle.std.proofs.Common.{[], ◌∙◌, ◌∷◌, ap, inl, refl, rules, sym}
use Rattle.{cache_policy.specs.Requests.{Request, request_of}, cache_rules.specs.Stored.fields_of_stored}
use Rattle.{cache_pass.specs.Effects.kept_of, cache_store.specs.{History.Call.Described, Parts.Combining.exchange_of}}
use Rattle.cache_pass.proofs.cache.Cache.describe.Goals as goal

pub returns-then-as_u16-eq200-clause-does : goal.returns-then-as_u16-eq200-clause-does
returns-then-as_u16-eq200-clause-does c = (
  Described c.args.key.now (request_of c.head.result) (fields_of_stored c.args.came.now) (exchange_of c.args.came.now)
      ∷ [],
  inl (
    (search rules, sym c.as_u16.ensures.value ∙ c.if-as_u16-eq200.true),
    ap (λ (r : Request). Described c.args.key.now r (fields_of_stored c.args.came.now) (exchange_of c.args.came.now)
        ∷ []) c.head.ensures,
  ),
  (kept_of c.args.self.now, refl, record { step = c.freshen_by_head-error.ensures.step; noted = refl }),
)
