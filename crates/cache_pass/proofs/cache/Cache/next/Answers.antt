use Rattle.{cache_store.specs.History.{Call, Call.{Looked, Validated}}, std.proofs.Common.{[], ◌∷◌, inl, inr, refl}}
use Rattle.{cache_pass.specs.Effects.kept_of, cache_policy.specs.Requests.request_of, headers.specs.LineMap.lines_at}
use Rattle.cache_pass.proofs.cache.Cache.next.Goals as goal

pub returns-then-is_validation-clause-next : goal.returns-then-is_validation-clause-next
returns-then-is_validation-clause-next c =
    let call : Call = Validated c.args.key.now (request_of c.args.request.now) (lines_at c.args.response.now)
    (record { requested = c.args.asked.requested; received = c.args.now }) in (
      call ∷ [],
      inr (inl (c.if-is_validation.ensures, c.if-is_outdated.ensures, refl, c.revalidated.ensures.next)),
      (kept_of c.args.self.now, refl, c.revalidated.ensures.does),
    )

pub returns-then-serves_on_error-clause-next : goal.returns-then-serves_on_error-clause-next
returns-then-serves_on_error-clause-next c = (
  Looked c.args.key.now ∷ [],
  inr (inr (inl (c.if-is_validation.ensures, c.if-serves_on_error.ensures.1, refl, c.failing.ensures.next))),
  (kept_of c.args.self.now, refl, c.failing.ensures.does),
)
