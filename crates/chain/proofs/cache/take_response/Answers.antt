use Rattle.std.proofs.Common.{◌≡◌, ◌∙◌, refl, ℕ, List, subst}
use Rattle.cache_store.{specs.Changes.{IsInserted, IsStoredAs, IsToStore}, specs.Kept.{contents_of, policy_of_store}}
use Rattle.cache_rules.specs.declared.stored.StoredResponse.{StoredResponse}
use Rattle.chain.proofs.cache.take_response.Goals as goal

pub returns-clause-taken : goal.returns-clause-taken
returns-clause-taken c = λ target request requested p.
    let came : StoredResponse = record {
      method = c.args.pending.method;
      request = c.args.pending.fields;
      status = c.args.received.status;
      response = c.args.received.fields;
      content = c.args.received.content;
      requested = c.args.pending.requested;
      received = c.args.now;
      number = 0;
    } in
    record {
      came = came;
      noted = record {
        method = p.method;
        asked_fields = p.fields;
        status = refl;
        fields = λ name. refl;
        content = refl;
        requested_at = p.at;
        received_at = refl;
      };
      arrived = rw (c.deref.ensures ∙ p.key) at c.store.ensures.step;
      stored = λ number ok. subst (λ (key : List ℕ). (kept : StoredResponse)
          × IsToStore (policy_of_store c.args.store.now) came c.args.reception × IsStoredAs came kept
          × (kept.number ≡ number) × IsInserted c.args.store.now.limits key kept (contents_of c.args.store.now)
          (contents_of c.store.new.self)) (c.deref.ensures ∙ p.key) (c.store.ensures.stored number ok);
      unstored = rw (c.deref.ensures ∙ p.key) at c.store.ensures.unstored;
      memory = rw (c.deref.ensures ∙ p.key) at c.store.ensures.memory;
    }
