use Rattle.{std.proofs.{Common.{Some, None}, lemmas.Result.IfOk-weaker}, headers.specs.LineMap.lines_at}
use Rattle.{cache_policy.specs.Requests.request_of, cache_rules.proofs.IdentifyingLemmas.{all_identified, answer_alone}}
use Rattle.cache_rules.proofs.IdentifyingLemmas.{no_place, one_place}
use Rattle.cache_rules.proofs.identifying.updated_by.Goals as goal

pub returns-then-has_strong_tag-clause-places : goal.returns-then-has_strong_tag-clause-places
returns-then-has_strong_tag-clause-places c = IfOk-weaker c.all_sought.result _ _
    (λ places h. all_identified _ _ _ (rw c.if-has_strong_tag.true at c.has_strong_tag.ensures) places.items h)
    c.all_sought.ensures.places

pub returns-in_ok-vec-in-Some-clause-places : goal.returns-in_ok-vec-in-Some-clause-places
returns-in_ok-vec-in-Some-clause-places c = rw c.in_ok-vec-in-Some.ensures.items
    (one_place (request_of c.args.request.now) (lines_at c.args.update.now) c.args.stored.now c.in-Some.place
    (answer_alone (request_of c.args.request.now) (lines_at c.args.update.now) c.args.stored.now
    c.if-has_strong_tag.ensures (Some c.in-Some.place) (rw c.in-Some.is at c.select_updated.ensures)))

pub returns-in-None-clause-places : goal.returns-in-None-clause-places
returns-in-None-clause-places c = rw c.new.ensures.items
    (no_place _ _ _ (answer_alone _ _ _ c.if-has_strong_tag.ensures None (rw c.in-None.is at c.select_updated.ensures)))
