use Rattle.chain.proofs.ChainLemmas.{tells}
use Rattle.chain.proofs.laws.client_gets_what_the_resource_says.Goals as goal

pub returns : goal.returns
returns c = tells c.other_fields_change_nothing.ensures c.head_is_answered_as_get.ensures c.vary_is_sound.ensures
    c.members_alone_select.ensures (c.lookups_serve_what_calls_justify.ensures, c.calls_justify_what_is_stored.ensures)
