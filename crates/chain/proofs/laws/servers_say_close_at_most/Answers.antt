use Rattle.chain.proofs.ServerLemmas.{says_close_at_most}
use Rattle.chain.proofs.laws.servers_say_close_at_most.Goals as goal

pub returns : goal.returns
returns c server now request reply h = says_close_at_most server now request reply h
