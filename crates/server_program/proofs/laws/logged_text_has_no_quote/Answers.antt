use Rattle.server_program.proofs.LogLemmas.{no_quote}
use Rattle.server_program.proofs.laws.logged_text_has_no_quote.Goals as goal

pub returns : goal.returns
returns c = no_quote
