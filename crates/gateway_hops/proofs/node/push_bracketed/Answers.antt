use Rattle.std.{proofs.Common.{◌++◌, codes, refl}, specs.Net.Addr.ipv6_segments, specs.Net.Text.ipv6_text}
use Rattle.http_header.{specs.Token.is_value_byte, proofs.TokenLemmas.AllPass-from_test}
use Rattle.gateway_hops.proofs.NodeLemmas.{join_valid, on_ok}
use Rattle.gateway_hops.proofs.node.push_bracketed.Goals as goal

pub returns-clause-valid : goal.returns-clause-valid
returns-clause-valid c =
    let text = ipv6_text (ipv6_segments c.args.ip) in
    on_ok _ (join_valid (codes "[") (text ++ codes "]") (AllPass-from_test is_value_byte (codes "[") refl)
    (join_valid text (codes "]") c.in_ok-push_ipv6.ensures.valid (AllPass-from_test is_value_byte (codes "]") refl)))
