use Rattle.headers_user.proofs.ApiKeyLemmas.{IsTypedRead-of_key}
use Rattle.headers_user.proofs.api_key.key_of.Goals as goal

pub returns-in-Err : goal.returns-in-Err
returns-in-Err c = IsTypedRead-of_key _ c.in-Err.refused c.in-Err.ensures.value
