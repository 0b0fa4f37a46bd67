use Rattle.{std.proofs.Common.{◌+◌, ◌∙◌, ap, arith, Err, inl, length}, headers.specs.LineMap.lines_at}
use Rattle.{cache_policy.specs.{Policies.policy_of, Requests.request_of}, cache_store.proofs.HistoryLemmas.Has-remove}
use Rattle.cache_rules.{proofs.FullLemmas.passed_full, specs.declared.stored.StoredResponse.StoredResponse}
use Rattle.cache_store.{proofs.NumberLemmas.{fewer-removed, numbered-again, numbered-left}, specs.Kept.contents_of}
use Rattle.cache_store.{proofs.GoOnLemmas.{goes-again, goes-left, goes-without}, specs.Kept.policy_of_store}
use Rattle.cache_store.proofs.{RefreshLemmas.{let_go, one_less, within, within_taken}, EntryLemmas.IsAbsent-without}
use Rattle.cache_store.proofs.RefreshLemmas.{none_refreshed, not_unchanged, one_too_small, other_too_small, restored}
use Rattle.cache_store.specs.declared.freshening.Refreshed.TheVariants as answer
use Rattle.cache_store.proofs.store.Store.freshen.Goals as goal

pub returns-in_default-clause-ok : goal.returns-in_default-clause-ok
returns-in_default-clause-ok c = none_refreshed (policy_of_store c.args.self.now) c.args.target.now
    (request_of c.args.request.now) (lines_at c.args.update.now) c.args.exchange
    (contents_of c.args.self.now) (rw c.responses.ensures at c.in_default.ensures) c.unrefreshed.result
    (rw c.responses-in_default.ensures at c.unrefreshed.ensures)

pub returns-in_default-clause-step : goal.returns-in_default-clause-step
returns-in_default-clause-step c = inl (c.unrefreshed.result, returns-in_default-clause-ok c)

pub remove-stored-requires : goal.remove-stored-requires
remove-stored-requires c = let taken = ap length c.take_out-responses.ensures.taken in
    omega (arith, within _ _ _ _ (rw c.responses.ensures at c.in-Some.ensures), c.take_out-responses.result.ok.0)

pub put_with-requires-clause-absent : goal.put_with-requires-clause-absent
put_with-requires-clause-absent c = rw (← (c.take_numbers.ensures.contents ∙ c.take_out-responses.ensures.contents)) at
    (IsAbsent-without c.args.target.now (contents_of c.args.self.now))

pub put_in-requires-clause-absent : goal.put_in-requires-clause-absent
put_in-requires-clause-absent c = rw (← (c.take_numbers.ensures.contents ∙ c.take_out-responses.ensures.contents)) at
    (IsAbsent-without c.args.target.now (contents_of c.args.self.now))

pub returns-in_ok-put_with-in-Stored-clause-ok : goal.returns-in_ok-put_with-in-Stored-clause-ok
returns-in_ok-put_with-in-Stored-clause-ok c =
    restored _ _ _ _ _ _ _ _ _ _ _ _ _ (rw c.responses.ensures at c.in-Some.ensures) _ _
    (c.policy-policy.ensures ∙ c.take_numbers.ensures.policy ∙ c.take_out-responses.ensures.policy)
    (c.take_numbers.ensures.contents ∙ c.take_out-responses.ensures.contents) c.take_out-responses.ensures.taken
    c.remove-stored.ensures.value c.remove-stored.ensures.items c.in_ok-left.ensures.left _ _ c.renumber.ensures
    (rw c.in-Stored.is at c.in_ok-fresh.ensures.freshened) c.in_ok-put_with-in-Stored.ensures.ok

pub returns-in_ok-put_with-in-Stored-clause-step : goal.returns-in_ok-put_with-in-Stored-clause-step
returns-in_ok-put_with-in-Stored-clause-step c =
    inl (answer.Stored (c.in_ok-first.first + c.len-2.result), returns-in_ok-put_with-in-Stored-clause-ok c)

pub returns-in_ok-put_in-in-Once-clause-ok : goal.returns-in_ok-put_in-in-Once-clause-ok
returns-in_ok-put_in-in-Once-clause-ok c =
    let_go _ _ _ _ _ _ _ _ _ _ _ _ _ (rw c.responses.ensures at c.in-Some.ensures) _ _
    (c.policy-policy.ensures ∙ c.take_numbers.ensures.policy ∙ c.take_out-responses.ensures.policy)
    (c.take_numbers.ensures.contents ∙ c.take_out-responses.ensures.contents) c.take_out-responses.ensures.taken
    c.remove-stored.ensures.value c.remove-stored.ensures.items c.in_ok-left.ensures.left _ _ c.renumber-in-Once.ensures
    (rw c.in-Once.is at c.in_ok-fresh.ensures.freshened) c.in_ok-put_in-in-Once.ensures.ok

pub returns-in_ok-put_in-in-Once-clause-step : goal.returns-in_ok-put_in-in-Once-clause-step
returns-in_ok-put_in-in-Once-clause-step c =
    inl (answer.Once c.renumber-in-Once.result, returns-in_ok-put_in-in-Once-clause-ok c)

pub returns-in-Unchanged-clause-ok : goal.returns-in-Unchanged-clause-ok
returns-in-Unchanged-clause-ok c = absurd (not_unchanged (policy_of_store c.args.self.now)
    (policy_of c.policy-policy.result) c.args.target.now (request_of c.args.request.now) (lines_at c.args.update.now)
    c.args.exchange (contents_of c.args.self.now) (contents_of c.take_out-responses.new.self)
    (contents_of c.take_out-responses.new.self) c.take_out-responses.result.items c.remove-stored.new.self.items
    c.in_ok-left.left.items c.in-Some.place (rw c.responses.ensures at c.in-Some.ensures) c.remove-stored.result
    c.in-Unchanged.field-0
    (c.policy-policy.ensures ∙ c.take_numbers.ensures.policy ∙ c.take_out-responses.ensures.policy)
    c.take_out-responses.ensures.contents c.take_out-responses.ensures.taken c.remove-stored.ensures.value
    c.remove-stored.ensures.items c.in_ok-left.ensures.left (rw c.in-Unchanged.is at c.in_ok-fresh.ensures.freshened))

pub returns-in_err-left-clause-full : goal.returns-in_err-left-clause-full
returns-in_err-left-clause-full c = λ full. other_too_small _ _ _ _ c.take_out-responses.ensures.taken _
    c.remove-stored.ensures.items
    (c.in_err-left.ensures.full (ap Err (passed_full _ _ c.from_residual-in_err-left.ensures.1 full)))

pub returns-in_err-fresh-clause-full : goal.returns-in_err-fresh-clause-full
returns-in_err-fresh-clause-full c = λ full. one_too_small _ _ _ _ c.take_out-responses.ensures.taken _
    (within _ _ _ _ (rw c.responses.ensures at c.in-Some.ensures)) c.remove-stored.ensures.value
    (c.in_err-fresh.ensures.full (ap Err (passed_full _ _ c.from_residual-in_err-fresh.ensures.1 full)))

pub returns-in_err-first-clause-numbers : goal.returns-in_err-first-clause-numbers
returns-in_err-first-clause-numbers c = goes-without _ _ _ _
    (omega (arith, c.in_err-first.ensures.err, c.take_out-responses.ensures.next)) _
    (c.take_numbers.ensures.contents ∙ c.take_out-responses.ensures.contents)

pub returns-in_err-left-clause-numbers : goal.returns-in_err-left-clause-numbers
returns-in_err-left-clause-numbers c = goes-without _ _ _ _
    (omega (arith, c.in_ok-first.ensures.ok, c.take_out-responses.ensures.next)) _
    (c.take_numbers.ensures.contents ∙ c.take_out-responses.ensures.contents)

pub returns-in_err-fresh-clause-numbers : goal.returns-in_err-fresh-clause-numbers
returns-in_err-fresh-clause-numbers c = goes-without _ _ _ _
    (omega (arith, c.in_ok-first.ensures.ok, c.take_out-responses.ensures.next)) _
    (c.take_numbers.ensures.contents ∙ c.take_out-responses.ensures.contents)

pub returns-in_err-put_with-in-Stored-clause-numbers : goal.returns-in_err-put_with-in-Stored-clause-numbers
returns-in_err-put_with-in-Stored-clause-numbers c = goes-without _ _ _ _
    (omega (arith, c.put_with.ensures.next, c.in_ok-first.ensures.ok, c.take_out-responses.ensures.next)) _
    (c.in_err-put_with-in-Stored.ensures.err ∙ c.take_numbers.ensures.contents ∙ c.take_out-responses.ensures.contents)

pub returns-in_err-put_in-in-Once-clause-numbers : goal.returns-in_err-put_in-in-Once-clause-numbers
returns-in_err-put_in-in-Once-clause-numbers c = goes-without _ _ _ _
    (omega (arith, c.put_in.ensures.next, c.in_ok-first.ensures.ok, c.take_out-responses.ensures.next)) _
    (c.in_err-put_in-in-Once.ensures.err ∙ c.take_numbers.ensures.contents ∙ c.take_out-responses.ensures.contents)

pub returns-in-Unchanged-clause-numbers : goal.returns-in-Unchanged-clause-numbers
returns-in-Unchanged-clause-numbers c = goes-without _ _ _ _
    (omega (arith, c.in_ok-first.ensures.ok, c.take_out-responses.ensures.next)) _
    (c.take_numbers.ensures.contents ∙ c.take_out-responses.ensures.contents)

pub overflow_add-number : goal.overflow_add-number
overflow_add-number c =
    let inside = within_taken _ _ _ _ _ _ c.responses.ensures c.take_out-responses.ensures.taken c.in-Some.ensures in
    let less = one_less _ _ _ inside c.remove-stored.ensures.items in
    let len = c.len.ensures ∙ c.take_out-responses.result.ok.0 in
    omega (arith, c.in_ok-first.ensures.ok, c.len-2.ensures ∙ c.remove-stored.new.self.ok.0)

pub left_of-requires : goal.left_of-requires
left_of-requires c =
    let inside = within_taken _ _ _ _ _ _ c.responses.ensures c.take_out-responses.ensures.taken c.in-Some.ensures in
    let less = one_less _ _ _ inside c.remove-stored.ensures.items in
    omega (arith, less, c.in_ok-first.ensures.ok, c.len.ensures ∙ c.take_out-responses.result.ok.0)

pub put_with-requires-clause-few : goal.put_with-requires-clause-few
put_with-requires-clause-few c =
    let inside = within_taken _ _ _ _ _ _ c.responses.ensures c.take_out-responses.ensures.taken c.in-Some.ensures in
    let less = one_less _ _ _ inside c.remove-stored.ensures.items in
    rw (c.take_numbers.ensures.limits, c.take_out-responses.ensures.limits, c.take_numbers.ensures.contents)
    (omega (arith, less, c.in_ok-left.ensures.fewer, c.take_out-responses.ensures.room.few))

pub put_with-requires-clause-numbers : goal.put_with-requires-clause-numbers
put_with-requires-clause-numbers c =
    let inside = within_taken _ _ _ _ _ _ c.responses.ensures c.take_out-responses.ensures.taken c.in-Some.ensures in
    let less = one_less _ _ _ inside c.remove-stored.ensures.items in
    let len = c.len.ensures ∙ c.take_out-responses.result.ok.0 in
    rw (← c.take_numbers.ensures.contents) at (numbered-again c.args.self.now.next c.take_numbers.new.self.next
    c.in_ok-first.first (contents_of c.args.self.now) (contents_of c.take_out-responses.new.self)
    c.take_out-responses.result.items c.remove-stored.new.self.items c.in_ok-left.left.items
    c.args.self.now.counted.numbered c.take_out-responses.ensures.numbers
    (c.in_ok-first.ensures.ok.0 ∙ c.take_out-responses.ensures.next)
    (omega (arith, c.in_ok-first.ensures.ok, c.take_out-responses.ensures.next))
    (λ number. rw c.remove-stored.ensures.items
    (fewer-removed number c.take_out-responses.result.items c.in-Some.place c.remove-stored.result inside))
    c.in_ok-left.ensures.numbers (omega (arith, less)) c.renumber.result (ap
    (λ (stored : StoredResponse). stored.number) c.renumber.ensures ∙ ap (λ n. c.in_ok-first.first + n)
    (c.len-2.ensures ∙ c.remove-stored.new.self.ok.0)) less)

pub put_in-requires-clause-few : goal.put_in-requires-clause-few
put_in-requires-clause-few c =
    let inside = within_taken _ _ _ _ _ _ c.responses.ensures c.take_out-responses.ensures.taken c.in-Some.ensures in
    let less = one_less _ _ _ inside c.remove-stored.ensures.items in
    rw (c.take_numbers.ensures.limits, c.take_out-responses.ensures.limits, c.take_numbers.ensures.contents)
    (omega (arith, less, c.in_ok-left.ensures.fewer, c.take_out-responses.ensures.room.few))

pub put_in-requires-clause-numbers : goal.put_in-requires-clause-numbers
put_in-requires-clause-numbers c =
    let inside = within_taken _ _ _ _ _ _ c.responses.ensures c.take_out-responses.ensures.taken c.in-Some.ensures in
    let less = one_less _ _ _ inside c.remove-stored.ensures.items in
    let len = c.len.ensures ∙ c.take_out-responses.result.ok.0 in
    rw (← c.take_numbers.ensures.contents) at (numbered-left c.args.self.now.next c.take_numbers.new.self.next
    c.in_ok-first.first (contents_of c.args.self.now) (contents_of c.take_out-responses.new.self)
    c.take_out-responses.result.items c.remove-stored.new.self.items c.in_ok-left.left.items
    c.args.self.now.counted.numbered c.take_out-responses.ensures.numbers
    (c.in_ok-first.ensures.ok.0 ∙ c.take_out-responses.ensures.next)
    (omega (arith, c.in_ok-first.ensures.ok, c.take_out-responses.ensures.next))
    (λ number. rw c.remove-stored.ensures.items
    (fewer-removed number c.take_out-responses.result.items c.in-Some.place c.remove-stored.result inside))
    c.in_ok-left.ensures.numbers (omega (arith, less)))

pub returns-in_ok-put_with-in-Stored-clause-numbers : goal.returns-in_ok-put_with-in-Stored-clause-numbers
returns-in_ok-put_with-in-Stored-clause-numbers c = goes-again _ _ _ _
    (omega (arith, c.put_with.ensures.next, c.in_ok-first.ensures.ok, c.take_out-responses.ensures.next)) _ _
    (c.take_numbers.ensures.contents ∙ c.take_out-responses.ensures.contents) _ _ c.take_out-responses.ensures.taken _
    (c.in_ok-first.ensures.ok.0 ∙ c.take_out-responses.ensures.next) _
    (λ one h. Has-remove _ _ one (rw c.remove-stored.ensures.items at h)) c.in_ok-left.ensures.kept _ (omega
    (arith, ap (λ (stored : StoredResponse). stored.number) c.renumber.ensures)) c.in_ok-put_with-in-Stored.ensures.ok

pub returns-in_ok-put_in-in-Once-clause-numbers : goal.returns-in_ok-put_in-in-Once-clause-numbers
returns-in_ok-put_in-in-Once-clause-numbers c = goes-left _ _ _ _
    (omega (arith, c.put_in.ensures.next, c.in_ok-first.ensures.ok, c.take_out-responses.ensures.next)) _ _
    (c.take_numbers.ensures.contents ∙ c.take_out-responses.ensures.contents) _ _ c.take_out-responses.ensures.taken _
    (c.in_ok-first.ensures.ok.0 ∙ c.take_out-responses.ensures.next) _ (λ one h. Has-remove _ _ one
    (rw c.remove-stored.ensures.items at h)) c.in_ok-left.ensures.kept c.in_ok-put_in-in-Once.ensures.ok
