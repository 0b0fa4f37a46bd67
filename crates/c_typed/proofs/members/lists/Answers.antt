use Rattle.std.{proofs.Common.{◌∙◌, ◌&&◌, ℕ, List, rules, tests}, proofs.lemmas.Iterator.Search.any_from_yields_List}
use Rattle.headers.{proofs.WalkRuns.YieldsList-from_walk, specs.ItemsState.is_entry, specs.Places.{comma, items}}
use Rattle.c_typed.{specs.Members.is_same, proofs.MemberLemmas.list_any-filter}
use Rattle.c_typed.proofs.members.lists.Goals as goal

pub returns : goal.returns
returns c =
    let test = is_same c.args.any_case c.args.member.now in
    let all = items comma c.args.list.now in
    any_from_yields_List (λ (item : List ℕ). is_entry item && test item) c.any.new.self _ c.any.result
    c.any.ensures.ran (YieldsList-from_walk c.iter_strs.ensures.items) (λ x b q k. search (rules, tests))
    ∙ list_any-filter is_entry test all
