use Rattle.{std.proofs.Common.{◌∙◌, ap}, headers.specs.LineMap.LineMap, chain.proofs.ResponseLemmas.unchanged}
use Rattle.chain.proofs.WayLemmas.{invisible}
use Rattle.chain.proofs.laws.client_gets_the_answer.Goals as goal

pub returns-clause-own : goal.returns-clause-own
returns-clause-own c present resource gateway gateways request last answer way =
    (invisible c.other_fields_change_nothing.ensures present resource answer gateway gateways request last way).1

pub returns-clause-whole : goal.returns-clause-whole
returns-clause-whole c back before answer response last name same way none others unmarked not_own =
    unchanged name unmarked not_own back response last way none others ∙ ap (λ (fields : LineMap). fields name) same
