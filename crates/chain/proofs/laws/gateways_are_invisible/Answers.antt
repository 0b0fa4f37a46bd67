use Rattle.chain.proofs.WayLemmas.{invisible}
use Rattle.chain.proofs.laws.gateways_are_invisible.Goals as goal

pub returns : goal.returns
returns c present resource gateway gateways request last answer way =
    invisible c.other_fields_change_nothing.ensures present resource answer gateway gateways request last way
