use Rattle.headers_user.proofs.MaxForwardsLemmas.{OfLines-by, OfLines-refused}
use Rattle.headers_user.proofs.max_forwards.MaxForwardsHeader.decode.Goals as goal

pub returns-in-Ok-clause-value : goal.returns-in-Ok-clause-value
returns-in-Ok-clause-value g c =
    OfLines-by c.in-Ok.ensures.value (λ lines read. search (read, c.new.ensures, c.as_secs.ensures))

pub returns-in-Err-clause-value : goal.returns-in-Err-clause-value
returns-in-Err-clause-value g c = OfLines-refused c.in-Err.refused c.in-Err.ensures.value
