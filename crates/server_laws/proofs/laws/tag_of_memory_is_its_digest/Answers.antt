use Rattle.server_laws.proofs.Served.{kept_tag}
use Rattle.server_laws.proofs.laws.tag_of_memory_is_its_digest.Goals as goal

pub returns : goal.returns
returns c now left site look request response kept tag read x told = kept_tag x told
