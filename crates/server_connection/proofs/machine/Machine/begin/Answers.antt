use Rattle.std.proofs.Common.{◌≡◌, ℕ, ◌≤◌, List, ◌++◌, length, map, take, refl, sym, ap, ◌∙◌, subst, arith}
use Rattle.std.proofs.{Common.{append_assoc, append-nil, inl, inr}, lemmas.Bool.false≢true}
use Rattle.httparse.specs.{declared.spans.HeaderSpan.HeaderSpan, Spans.header_bytes}
use Rattle.http_server.specs.{Host.AreHostsValid, Exchange.{ExpectsContinue, continue_text}}
use Rattle.http_server.proofs.MachineLemmas.{holds, running_at, moved, busy, may_abort, accepted, head_accepted}
use Rattle.http_server.proofs.MachineLemmas.{coded_head, uncoded_head, head_hosts, invalid_host, invalid_part, opened}
use Rattle.{http_server.proofs.MachineLemmas.{expecting, long_by_size}, server_connection.specs.Machine.core}
use Rattle.server_connection.proofs.{TurnLemmas.refused_on, machine.Machine.begin.Goals.{in-OutOfMemory, in_default-e}}
use Rattle.server_connection.proofs.machine.Machine.begin.Goals as goal

abbrev Hosts : ℕ → List HeaderSpan → List ℕ → Type 0
Hosts count spans input = AreHostsValid (map (header_bytes input) (take count spans))

pub returns-then-has_codings-clause-reaches : goal.returns-then-has_codings-clause-reaches
returns-then-has_codings-clause-reaches c = λ p x.
    let k = core c.args.self.now p in
    c.refuse.ensures.reaches p (
      x.0,
      (x.1, coded_head k c.args.spans.now c.args.head.now x (sym c.has_codings.ensures ∙ c.if-has_codings.true)),
      busy k.config k.history (head_accepted k c.args.spans.now c.args.head.now x),
    )

pub returns-then-not-are_hosts-clause-reaches : goal.returns-then-not-are_hosts-clause-reaches
returns-then-not-are_hosts-clause-reaches c = λ p x.
    let k = core c.args.self.now p in
    c.refuse-then-not-are_hosts.ensures.reaches p (
      x.0,
      (
        x.1,
        invalid_host k c.args.spans.now c.args.head.now x
            (λ good. false≢true (sym c.if-not-are_hosts.true ∙ c.are_hosts.ensures.1
            (subst (Hosts c.args.head.now.headers c.args.spans.now) (sym c.as_slice.ensures) good))),
      ),
      busy k.config k.history (head_accepted k c.args.spans.now c.args.head.now x),
    )

pub returns-in-Err-clause-reaches : goal.returns-in-Err-clause-reaches
returns-in-Err-clause-reaches c = λ p x.
    let k = core c.args.self.now p in
    let frozen = c.in-Ok.ensures in
    let work = busy k.config k.history (accepted k c.args.spans.now c.args.head.now x _ frozen.front) in
    elim c.match-e.branch [
      | in-OutOfMemory w ↦ rw w.self-is
          (w.abort-in-OutOfMemory.ensures.reaches p (may_abort _ (moved x.0 _ _ k.server k.head k.body) work (inl x.1)))
      | in_default-e w ↦
          let why = invalid_part k c.args.spans.now c.args.head.now x _ frozen.front c.in-Err.e
          w.in_default-e.not-OutOfMemory c.in-Err.ensures.err in
          rw w.self-is (w.refuse-in_default-e.ensures.reaches p (moved x.0 _ _ _ _ _, (x.1, why), work))
    ]

pub returns-clause-reaches : goal.returns-clause-reaches
returns-clause-reaches c = λ p x.
    let k = core c.args.self.now p in
    let frozen = c.in-Ok.ensures in
    let body = opened k c.args.spans.now c.args.head.now x _ frozen.front _ _ frozen.rest.0
    c.in-Ok-fill_request.ensures.ok continue_text (λ _. refl) (head_hosts k c.args.spans.now c.args.head.now x
    (subst (Hosts c.args.head.now.headers c.args.spans.now) c.as_slice.ensures
    (c.are_hosts.ensures.0 c.if-not-are_hosts.false)))
    (uncoded_head k c.args.spans.now c.args.head.now x (sym c.has_codings.ensures ∙ c.if-has_codings.false)) in
    c.refuse-2.ensures.reaches p (
      moved x.0 _ _ _ _ _,
      (x.1, long_by_size body c.in-Known.len _ (sym c.unread_size-size.ensures ∙ c.in-Known.is) c.if-len-self.true),
      busy k.config k.history body.accepts,
    )

pub returns-then-not-expects_continue-clause-reaches : goal.returns-then-not-expects_continue-clause-reaches
returns-then-not-expects_continue-clause-reaches c = λ p x.
    let k = core c.args.self.now p in
    let frozen = c.in-Ok.ensures in
    let body = opened k c.args.spans.now c.args.head.now x _ frozen.front _ _ frozen.rest.0
    c.in-Ok-fill_request.ensures.ok
    x.0.interim (λ waits. let wrong = sym c.if-not-expects_continue.true ∙ c.expects_continue.ensures ∙ waits in cc)
    (head_hosts k c.args.spans.now c.args.head.now x
    (subst (Hosts c.args.head.now.headers c.args.spans.now) c.as_slice.ensures
    (c.are_hosts.ensures.0 c.if-not-are_hosts.false)))
    (uncoded_head k c.args.spans.now c.args.head.now x (sym c.has_codings.ensures ∙ c.if-has_codings.false)) in
    let fits : length k.body ≤ k.config.max_body_len = rw x.2.2 (omega arith) in
    holds _ (running_at _ (moved x.0 _ _ _ _ _) _ x.1 refl (body, fits))

pub returns-in-Ok-extend_from_slice-clause-reaches : goal.returns-in-Ok-extend_from_slice-clause-reaches
returns-in-Ok-extend_from_slice-clause-reaches c = λ p x.
    let k = core c.args.self.now p in
    let frozen = c.in-Ok.ensures in
    let body = opened k c.args.spans.now c.args.head.now x _ frozen.front _ _ frozen.rest.0
    c.in-Ok-fill_request.ensures.ok continue_text (λ _. refl) (head_hosts k c.args.spans.now c.args.head.now x
    (subst (Hosts c.args.head.now.headers c.args.spans.now) c.as_slice.ensures
    (c.are_hosts.ensures.0 c.if-not-are_hosts.false)))
    (uncoded_head k c.args.spans.now c.args.head.now x (sym c.has_codings.ensures ∙ c.if-has_codings.false)) in
    let fits : length k.body ≤ k.config.max_body_len = rw x.2.2 (omega arith) in
    let waits = sym c.expects_continue.ensures ∙ c.if-not-expects_continue.false in
    let before : k.history.sent ++ k.history.pending ≡ x.0.text = rw (x.2.1, append-nil) at x.0.out in
    holds _ (running_at _ (record {
      is_open = x.0.is_open;
      answered = x.0.answered;
      text = x.0.text;
      rest = x.0.rest;
      serves = x.0.serves;
      interim = continue_text;
      is_interim = inr (refl, expecting k c.args.spans.now c.args.head.now x _ frozen.front waits);
      out = ap (λ (t : List ℕ). k.history.sent ++ t) c.in-Ok-extend_from_slice.ensures.ok ∙ sym
          (append_assoc _ _ continue_text)
          ∙ ap (λ (t : List ℕ). t ++ continue_text) before;
    }) _ x.1 refl (body, fits))

pub returns-then-has_codings-clause-puts : goal.returns-then-has_codings-clause-puts
returns-then-has_codings-clause-puts c = λ p x. inr (refused_on refl c.refuse.ensures.puts)

pub returns-then-not-are_hosts-clause-puts : goal.returns-then-not-are_hosts-clause-puts
returns-then-not-are_hosts-clause-puts c = λ p x. inr (refused_on refl c.refuse-then-not-are_hosts.ensures.puts)

pub returns-in_default-clause-puts : goal.returns-in_default-clause-puts
returns-in_default-clause-puts c = λ p x. inr (inr (inr (c.abort.ensures.state, c.abort.ensures.output)))

pub returns-in-Err-clause-puts : goal.returns-in-Err-clause-puts
returns-in-Err-clause-puts c = λ p x. elim c.match-e.branch [
  | in-OutOfMemory w ↦
      rw w.self-is (inr (inr (inr (w.abort-in-OutOfMemory.ensures.state, w.abort-in-OutOfMemory.ensures.output))))
  | in_default-e w ↦ rw w.self-is (inr (refused_on refl w.refuse-in_default-e.ensures.puts))
]

pub returns-clause-puts : goal.returns-clause-puts
returns-clause-puts c = λ p x. inr (refused_on refl c.refuse-2.ensures.puts)

pub returns-in-Ok-extend_from_slice-clause-puts : goal.returns-in-Ok-extend_from_slice-clause-puts
returns-in-Ok-extend_from_slice-clause-puts c = λ p x.
    let k = core c.args.self.now p in
    let waits = sym c.expects_continue.ensures ∙ c.if-not-expects_continue.false in
    inl (record {
      state = refl;
      output = c.in-Ok-extend_from_slice.ensures.ok;
      has_head = refl;
      expects = subst (ExpectsContinue k.config.limits) (sym x.2.0)
          (expecting k c.args.spans.now c.args.head.now x _ c.in-Ok.ensures.front waits);
    })

pub returns-2-clause-puts : goal.returns-2-clause-puts
returns-2-clause-puts c = λ p x.
    let abort = c.abort-in-Err-extend_from_slice.ensures in inr (inr (inr (abort.state, abort.output)))
