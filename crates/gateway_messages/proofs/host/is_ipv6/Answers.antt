use Rattle.{std.proofs.Common.◌∙◌, gateway_messages.proofs.HostLemmas.ipv6_result}
use Rattle.gateway_messages.proofs.host.is_ipv6.Goals as goal

pub returns : goal.returns
returns c = c.is_ok.ensures.value ∙ ipv6_result c.args.text.now _ c.parse_ascii.ensures
