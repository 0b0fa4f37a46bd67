use Rattle.std.proofs.Common.{◌≡◌, ◌∙◌, ap, eq-eqb, inl, inr, refl, subst, sym, true}
use Rattle.{cache_rules.specs.Stored.{fields_of_stored, request_of_stored}, chain.proofs.SharingLemmas.may-be}
use Rattle.interference.specs.{Events.nodes_after, Worlds.{Kind.Right, Pass, Request as Sent, may_store}}
use Rattle.chain.proofs.sharing.what_is_stored_may_be_shared.Goals as goal

pub returns-clause-allowed : goal.returns-clause-allowed
returns-clause-allowed c policy request status response target head shared get may same =
    may-be policy shared target status response head same request get may

pub returns-clause-event : goal.returns-clause-event
returns-clause-event c policy limits calls contents ran shared key stored has get origin clients world pass target place
    given at of = elim (may-be policy shared target stored.status (fields_of_stored stored) given.answer.head of.storing
    (request_of_stored stored) get
    (c.what_is_stored_may_be_stored.ensures policy limits calls contents ran key stored has)) [
      | inl may ↦
          inl (ap (λ (p : Pass). nodes_after Right p world.nodes place.cache) at ∙ rw (
            eq-eqb place.cache place.cache refl,
            subst (λ (q : Sent). may_store q given.answer.head ≡ true) (sym of.asks) may,
          ) refl)
      | inr none ↦ inr none
    ]
