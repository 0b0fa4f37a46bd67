use Rattle.{headers.specs.LineMap.lines_at, rfc_fields.specs.Members.member_of, cache_policy.specs.Varying.Agree}
use Rattle.cache_policy.proofs.VaryLemmas.{all_but_first}
use Rattle.cache_policy.proofs.vary.are_alike.Goals as goal

pub loop-member-preserved : goal.loop-member-preserved
loop-member-preserved c =
    let Agrees = Agree (lines_at c.args.stored.now) (lines_at c.args.request.now) in
    let is : Agrees (member_of c.in-Some.member) = rw c.if-not-agree.false at c.agree.ensures in
    let later = all_but_first Agrees _ _ is in
    let so_far = rw c.in-Some.ensures.steps at c.loop-member.invariant in
    ((λ a. later.0 (so_far.0 a)), (λ a. so_far.1 (later.1 a)))
