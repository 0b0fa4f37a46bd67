use Rattle.{std.proofs.Common.{◌++◌, codes, option_map, refl}, http_header.specs.Token.is_value_byte}
use Rattle.{http_header.proofs.TokenLemmas.AllPass-from_test, gateway_hops.specs.Arrivals.{arrival_parts, scheme_text}}
use Rattle.gateway_hops.specs.{Elements.{optional_pair, pair_text}, Nodes.node_text}
use Rattle.gateway_hops.proofs.{ElementLemmas.{optional_valid, pair_valid, scheme_valid}, NodeLemmas.join_valid}
use Rattle.gateway_hops.proofs.element.element_text.Goals as goal

pub returns-clause-valid : goal.returns-clause-valid
returns-clause-valid c =
    let arrival = arrival_parts c.args.arrival.now in
    let by = optional_pair (codes "by") (option_map node_text arrival.interface) in
    let host = optional_pair (codes "host") arrival.host in
    join_valid (pair_text (codes "for") (node_text arrival.client)) _
    (pair_valid (codes "for") (node_text arrival.client) (AllPass-from_test is_value_byte (codes "for") refl)
    c.in_ok-client.ensures.valid) (join_valid by _ c.in_ok-push_interface.ensures.valid
    (join_valid host _ c.in_ok-push_host.ensures.valid
    (optional_valid (codes "proto") (scheme_text arrival.scheme) (AllPass-from_test is_value_byte (codes "proto") refl)
    (scheme_valid arrival.scheme))))
