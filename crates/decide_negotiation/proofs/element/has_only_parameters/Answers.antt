use Rattle.std.proofs.{Common.{rules, tests}, lemmas.Iterator.Consumers.YieldsList-from_first}
use Rattle.{std.proofs.lemmas.Iterator.Search.all_from_yields_List, rfc_fields.specs.Members.{member_of, members_left}}
use Rattle.decide_negotiation.specs.Elements.{is_parameter}
use Rattle.decide_negotiation.proofs.element.has_only_parameters.Goals as goal

pub returns : goal.returns
returns c = all_from_yields_List is_parameter _ _ _ c.all.ensures.ran
    (YieldsList-from_first member_of members_left _ c.members_after.ensures) (λ x b q k. search (rules, tests))
