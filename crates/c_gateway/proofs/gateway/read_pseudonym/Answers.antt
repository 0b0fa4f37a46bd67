use Rattle.http_header.proofs.TokenLemmas.{IsUtf8-from_token}
use Rattle.c_gateway.proofs.gateway.read_pseudonym.Goals as goal

pub returns-in_default : goal.returns-in_default
returns-in_default c token = c.in_default.ensures.cases.0 (IsUtf8-from_token c.args.text.now token)
