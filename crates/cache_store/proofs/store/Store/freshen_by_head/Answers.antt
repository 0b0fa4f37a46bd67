use Rattle.{std.proofs.Common.{◌∙◌, ap, arith, inl, length}, headers_map.proofs.InsertLemmas.OnErr-from}
use Rattle.cache_store.{specs.Kept.contents_of, proofs.{EntryLemmas.IsAbsent-without, NumberLemmas.numbered-left}}
use Rattle.cache_store.proofs.{RefreshLemmas.head_refreshed, GoOnLemmas.{goes-left, goes-without}}
use Rattle.cache_store.proofs.store.Store.freshen_by_head.Goals as goal

pub put_in-requires-clause-absent : goal.put_in-requires-clause-absent
put_in-requires-clause-absent c = rw (← (c.take_numbers.ensures.contents ∙ c.take_out-responses.ensures.contents)) at
    (IsAbsent-without c.args.target.now (contents_of c.args.self.now))

pub returns-clause-ok : goal.returns-clause-ok
returns-clause-ok c = head_refreshed _ _ _ _ _ _ _ _ _ _ _ (c.policy-policy.ensures ∙ c.take_numbers.ensures.policy
    ∙ c.take_out-responses.ensures.policy) (c.take_numbers.ensures.contents ∙ c.take_out-responses.ensures.contents)
    c.take_out-responses.ensures.taken c.in_ok-left.ensures.left c.in_ok-put_in.ensures.ok

pub returns-clause-step : goal.returns-clause-step
returns-clause-step c = inl (returns-clause-ok c)

pub returns-in_err-first-clause-numbers : goal.returns-in_err-first-clause-numbers
returns-in_err-first-clause-numbers c = goes-without _ _ _ _
    (omega (arith, c.in_err-first.ensures.err, c.take_out-responses.ensures.next)) _
    (c.take_numbers.ensures.contents ∙ c.take_out-responses.ensures.contents)

pub returns-in_err-left-clause-numbers : goal.returns-in_err-left-clause-numbers
returns-in_err-left-clause-numbers c = goes-without _ _ _ _
    (omega (arith, c.in_ok-first.ensures.ok, c.take_out-responses.ensures.next)) _
    (c.take_numbers.ensures.contents ∙ c.take_out-responses.ensures.contents)

pub returns-in_err-put_in-clause-numbers : goal.returns-in_err-put_in-clause-numbers
returns-in_err-put_in-clause-numbers c = goes-without _ _ _ _
    (omega (arith, c.put_in.ensures.next, c.in_ok-first.ensures.ok, c.take_out-responses.ensures.next)) _
    (c.in_err-put_in.ensures.err ∙ c.take_numbers.ensures.contents ∙ c.take_out-responses.ensures.contents)

pub returns-in_err-first-clause-memory : goal.returns-in_err-first-clause-memory
returns-in_err-first-clause-memory c =
    let len = c.len.ensures ∙ c.take_out-responses.result.ok.0 in
    let taken = ap length c.take_out-responses.ensures.taken in
    OnErr-from c.from_residual.result (omega (arith, c.in_err-first.ensures.some))

pub left_of-requires : goal.left_of-requires
left_of-requires c = omega (arith, c.in_ok-first.ensures.ok, c.len.ensures ∙ c.take_out-responses.result.ok.0)

pub put_in-requires-clause-numbers : goal.put_in-requires-clause-numbers
put_in-requires-clause-numbers c =
    let len = c.len.ensures ∙ c.take_out-responses.result.ok.0 in
    rw (← c.take_numbers.ensures.contents) at (numbered-left c.args.self.now.next c.take_numbers.new.self.next
    c.in_ok-first.first (contents_of c.args.self.now) (contents_of c.take_out-responses.new.self)
    c.take_out-responses.result.items c.take_out-responses.result.items c.in_ok-left.left.items
    c.args.self.now.counted.numbered c.take_out-responses.ensures.numbers
    (c.in_ok-first.ensures.ok.0 ∙ c.take_out-responses.ensures.next)
    (omega (arith, c.in_ok-first.ensures.ok, c.take_out-responses.ensures.next)) (λ number. omega arith)
    c.in_ok-left.ensures.numbers (omega arith))

pub returns-clause-numbers : goal.returns-clause-numbers
returns-clause-numbers c = goes-left _ _ _ _
    (omega (arith, c.put_in.ensures.next, c.in_ok-first.ensures.ok, c.take_out-responses.ensures.next)) _ _
    (c.take_numbers.ensures.contents ∙ c.take_out-responses.ensures.contents) _ _ c.take_out-responses.ensures.taken _
    (c.in_ok-first.ensures.ok.0 ∙ c.take_out-responses.ensures.next) _
    (λ one h. h) c.in_ok-left.ensures.kept c.in_ok-put_in.ensures.ok
