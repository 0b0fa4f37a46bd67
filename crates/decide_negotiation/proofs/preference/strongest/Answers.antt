use Rattle.std.proofs.{Common.{rules, tests}, lemmas.Iterator.Consumers.{YieldsList-at, YieldsList-from_filter_map}}
use Rattle.std.proofs.lemmas.Iterator.Consumers.{YieldsList-from_first, fold_from_yields_List}
use Rattle.{rfc_fields.specs.Members.{field_left, member_of}, decide_negotiation.specs.Preferences.stronger}
use Rattle.decide_negotiation.specs.Preferences.{strongest}
use Rattle.decide_negotiation.proofs.preference.strongest.Goals as goal

pub returns : goal.returns
unfolding strongest
returns g c = fold_from_yields_List _ stronger _ _ c.fold.ensures.ran (YieldsList-from_filter_map _ _
    (YieldsList-at c.filter_map.ensures.source (YieldsList-from_first member_of field_left _ c.new.ensures))
    c.filter_map.ensures.closure (λ x r q k. search (rules, tests))) (λ a x b q k. search (rules, tests))
