use Rattle.gateway_messages.proofs.RecipientLemmas.{in_use, know_plain}
use Rattle.gateway_messages.proofs.laws.servers_know_plain_forms.Goals as goal

pub returns-clause-some : goal.returns-clause-some
returns-clause-some c = know_plain

pub returns-clause-in_use : goal.returns-clause-in_use
returns-clause-in_use c spelling pick codings precedence i rest at =
    know_plain spelling pick _ _ codings precedence (in_use _)
