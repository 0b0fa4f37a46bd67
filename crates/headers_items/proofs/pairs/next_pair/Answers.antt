use Rattle.std.{proofs.Common.{◌≡◌, None, is_some, sym, ◌∙◌, ap}, specs.List.cons_option}
use Rattle.headers_items.{specs.Pairs.{pair_of, has_pair, pairs, pairs_left}, proofs.PassingLemmas.PassesUnwanted-more}
use Rattle.headers_items.proofs.pairs.next_pair.Goals as goal

pub loop-item-preserved : goal.loop-item-preserved
loop-item-preserved c =
    let none : None ≡ pair_of c.in-Some.item.now = c.in_default-halves.ensures in let later = c.next.new.self in
    let step : pairs_left c.loop-item.items ≡ pairs_left later = ap pairs c.in-Some.ensures.steps ∙ ap
    (λ r. cons_option r (pairs_left later)) (sym none) in
    record {
      pairs = sym step ∙ c.loop-item.invariant.pairs;
      passes = PassesUnwanted-more has_pair c.args.items.now c.loop-item.items later c.in-Some.item
          c.loop-item.invariant.passes c.in-Some.ensures.scanned c.in-Some.ensures.steps c.in-Some.ensures.follows
          (ap is_some (sym none));
    }
