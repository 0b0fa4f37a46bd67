use Rattle.{server_connection.specs.Machine.core, http_server.proofs.MachineLemmas.{may_abort, refusal_calls, closing}}
use Rattle.server_connection.proofs.machine.Machine.refuse.Goals as goal

pub returns-in_default-clause-reaches : goal.returns-in_default-clause-reaches
returns-in_default-clause-reaches c = λ p x.
    let k = core c.args.self.now p in
    c.abort.ensures.reaches p (may_abort k x.0 x.2 (refusal_calls c.args.why k.config k.history _ _ x.1))

pub returns-clause-reaches : goal.returns-clause-reaches
returns-clause-reaches c = λ p x.
    closing (core c.args.self.now p) c.args.why _ (rw c.refusal_text.ensures at c.in-Ok.ensures.ok) x
