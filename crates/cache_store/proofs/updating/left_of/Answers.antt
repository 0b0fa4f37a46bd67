use Rattle.std.proofs.{Common.{[], ◌≡◌, ap, arith, Err, inr, length, rules, subst, sym}, lemmas.List.nil_from_length}
use Rattle.std.{proofs.lemmas.List.Elements.{All-contains_itself, All-rest}, specs.List.{All, Contains}}
use Rattle.{headers.specs.LineMap.lines_at, cache_policy.specs.{Policies.policy_of, Requests.request_of}}
use Rattle.cache_store.{specs.{History.Has, Numbers.AreRenumbered, Updates.Becomes}, proofs.GoOnLemmas.kept-next}
use Rattle.cache_store.proofs.NumberLemmas.{AreRenumbering, renumbering-end, renumbering-next, renumbering-none}
use Rattle.cache_store.proofs.UpdateLemmas.{continues-end, continues-next, fewer-next, next_too_small}
use Rattle.cache_rules.proofs.FullLemmas.{passed_full}
use Rattle.cache_store.proofs.updating.left_of.Goals as goal

pub loop-stored-init : goal.loop-stored-init
loop-stored-init c = record {
  left = search rules;
  fewer = search rules;
  among = subst (All (Contains c.args.responses.items)) (sym c.into_iter-all.ensures.rest)
      (All-contains_itself c.args.responses.items);
  numbers = subst
      (λ l. AreRenumbering c.args.first c.args.first c.args.responses.items l c.into_iter-all.result.rest.items)
      (sym c.new-left.ensures.items) (subst (AreRenumbering c.args.first c.args.first c.args.responses.items [])
      (sym c.into_iter-all.ensures.rest) (renumbering-none c.args.first c.args.responses.items));
  counted = search rules;
  rises = omega arith;
  kept = λ stored h. absurd (subst (λ l. Has l stored) c.new-left.ensures.items h);
  there = λ stored h. subst (λ l. Has l stored) c.into_iter-all.ensures.rest h;
}

pub loop-stored-preserved : goal.loop-stored-preserved
loop-stored-preserved c =
    let old = c.loop-stored.left.items in
    let new = c.append.new.left.items in
    let these = c.loop-stored.all.rest.items in
    let others = c.next.new.self.rest.items in
    let request = request_of c.args.request.now in
    let update = lines_at c.args.update.now in
    record {
      left = continues-next (λ one. Becomes (policy_of c.args.policy.now) request update c.args.exchange one c.args.by)
          c.args.responses.items old new others these c.in-Some.stored c.in_ok-fate.fate
          c.in-Some.ensures.items c.in_ok-append.ensures c.loop-stored.invariant.left c.in_ok-fate.ensures.becomes;
      fewer = fewer-next old new others these c.in-Some.stored c.in_ok-fate.fate c.in-Some.ensures.items
          c.in_ok-append.ensures (length c.args.responses.items) c.loop-stored.invariant.fewer;
      among = All-rest (Contains c.args.responses.items) c.in-Some.stored others these c.in-Some.ensures.items
          c.loop-stored.invariant.among;
      numbers = renumbering-next c.args.first c.loop-stored.number c.args.responses.items old new others these
          c.in-Some.stored c.in_ok-fate.fate c.loop-stored.invariant.rises c.in-Some.ensures.items
          c.in_ok-append.ensures c.in_ok-fate.ensures.number c.loop-stored.invariant.numbers;
      counted = omega (arith, ap length c.in-Some.ensures.items, c.loop-stored.invariant.counted);
      rises = omega (arith, c.loop-stored.invariant.rises);
      kept = kept-next c.args.responses.items old new others these c.in-Some.stored c.in_ok-fate.fate c.args.first
          c.loop-stored.number c.loop-stored.invariant.rises c.in-Some.ensures.items c.in_ok-append.ensures
          c.in_ok-fate.ensures.number c.loop-stored.invariant.kept c.loop-stored.invariant.there;
      there = λ stored h. c.loop-stored.invariant.there stored
          (subst (λ l. Has l stored) (sym c.in-Some.ensures.items) (inr h));
    }

pub returns-clause-left : goal.returns-clause-left
returns-clause-left c = let these = c.loop-stored.all.rest.items in
    let zero : length these ≡ 0 = omega (arith, c.in_default.ensures.cases, c.loop-stored.all.rest.ok.0) in
    continues-end (λ one. Becomes (policy_of c.args.policy.now)
    (request_of c.args.request.now) (lines_at c.args.update.now) c.args.exchange one c.args.by) _ _ these
    (nil_from_length these zero) c.loop-stored.invariant.left

pub returns-in_err-fate-clause-full : goal.returns-in_err-fate-clause-full
returns-in_err-fate-clause-full c = λ full. next_too_small _ _ _ _ _ c.in-Some.ensures.items
    c.loop-stored.invariant.among (c.in_err-fate.ensures.full (ap Err (passed_full _ _ c.from_residual.ensures.1 full)))

pub returns-clause-numbers : goal.returns-clause-numbers
returns-clause-numbers c = let these = c.loop-stored.all.rest.items in
    let zero : length these ≡ 0 = omega (arith, c.in_default.ensures.cases, c.loop-stored.all.rest.ok.0) in
    subst (λ last. AreRenumbered c.args.first last c.args.responses.items c.loop-stored.left.items) (omega
    (arith, c.loop-stored.invariant.counted, zero)) (renumbering-end _ _ _ _ these c.loop-stored.invariant.numbers)
