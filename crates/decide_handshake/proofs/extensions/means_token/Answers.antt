use Rattle.decide_handshake.proofs.ExtensionLemmas.{means_token_by}
use Rattle.decide_handshake.proofs.extensions.means_token.Goals as goal

pub returns-in-Ok : goal.returns-in-Ok
returns-in-Ok c = means_token_by _ _ _ c.in-Ok.ensures c.is_token_value.ensures
