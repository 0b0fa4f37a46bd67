use Rattle.headers_hosts.specs.HostLaws.{host_read_back}
use Rattle.headers_hosts.proofs.host.hosts_read_back.Goals as goal

pub returns : goal.returns
returns c = host_read_back c.args.host.now c.as_str-text.ensures.valid
