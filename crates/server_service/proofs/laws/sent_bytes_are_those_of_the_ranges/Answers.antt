use Rattle.server_service.proofs.ContentLemmas.{sent_bytes}
use Rattle.server_service.proofs.laws.sent_bytes_are_those_of_the_ranges.Goals as goal

pub returns : goal.returns
returns c = sent_bytes
