use Rattle.{server_laws.proofs.Served.{asked_by, get_reads, get_verb, head_verb, message_with}, std.specs.Prelude.codes}
use Rattle.server_laws.proofs.laws.literal_requests_are_read.Goals as goal

pub returns-clause-get : goal.returns-clause-get
returns-clause-get c = asked_by (codes "GET") get_verb

pub returns-clause-head : goal.returns-clause-head
returns-clause-head c = asked_by (codes "HEAD") head_verb

pub returns-clause-some : goal.returns-clause-some
returns-clause-some c limits room = (message_with (codes "GET"), get_reads limits room)
