use Rattle.std.{proofs.Common.rules, specs.Net.Addr.{IsIpv6Addr, ipv6_segments}}
use Rattle.gateway_hops.proofs.NodeLemmas.{ipv6_valid, on_ok}
use Rattle.gateway_hops.proofs.node.push_ipv6.Goals as goal

pub returns-clause-valid : goal.returns-clause-valid
returns-clause-valid c =
    let fits : IsIpv6Addr c.args.ip = search rules in on_ok _ (ipv6_valid (ipv6_segments c.args.ip) fits.1)
