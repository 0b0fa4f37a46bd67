use Rattle.{std.proofs.Common.subst, cache_policy.specs.{Policies.tells, Storing.IsShareable, declared.Kind.Kind}}
use Rattle.chain.proofs.StoreLemmas.{StoreLaws, come, content_is, from, shareable}
use Rattle.chain.proofs.laws.shared_caches_serve_nothing_private.Goals as goal

pub returns-clause-private : goal.returns-clause-private
returns-clause-private c site silent hops caching start now target request reply is_shared f =
    let law : StoreLaws = (c.lookups_serve_what_calls_justify.ensures, c.calls_justify_what_is_stored.ensures) in
    (subst (λ (k : Kind). IsShareable k (come law f).request.fields (tells caching.policy reply.fields)) is_shared
    (shareable law f)).0

pub returns-clause-credentials : goal.returns-clause-credentials
returns-clause-credentials c site silent hops caching start now target request reply is_shared f =
    let law : StoreLaws = (c.lookups_serve_what_calls_justify.ensures, c.calls_justify_what_is_stored.ensures) in
    let came = from law f in (
      came.sent,
      came.received,
      (come law f).request,
      came.reply,
      came.answered,
      content_is law f,
      (subst (λ (k : Kind). IsShareable k (come law f).request.fields (tells caching.policy reply.fields)) is_shared
          (shareable law f)).1,
    )
