use Rattle.std.{proofs.Common.rules, specs.Net.Addr.{IsIpv4Addr, ipv4_octets}}
use Rattle.gateway_hops.proofs.NodeLemmas.{ipv4_valid, on_ok}
use Rattle.gateway_hops.proofs.node.push_ipv4.Goals as goal

pub returns-clause-valid : goal.returns-clause-valid
returns-clause-valid c =
    let fits : IsIpv4Addr c.args.ip = search rules in on_ok _ (ipv4_valid (ipv4_octets c.args.ip) fits.1)
