use Rattle.chain.proofs.{ChainLemmas.ends, StoreLemmas.stores_none}
use Rattle.chain.proofs.laws.no_connection_field_crosses.Goals as goal

pub returns-clause-forwarded : goal.returns-clause-forwarded
returns-clause-forwarded c site silent hops gateway start now target request reply name f = ends f.back name

pub returns-clause-stored : goal.returns-clause-stored
returns-clause-stored c site silent hops caching start now target request reply name f =
    stores_none (c.lookups_serve_what_calls_justify.ensures, c.calls_justify_what_is_stored.ensures) f name
