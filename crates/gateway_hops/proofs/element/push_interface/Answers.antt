use Rattle.std.proofs.Common.{codes, refl}
use Rattle.http_header.{specs.Token.is_value_byte, proofs.TokenLemmas.AllPass-from_test}
use Rattle.gateway_hops.{specs.Nodes.node_text, proofs.ElementLemmas.optional_valid, proofs.NodeLemmas.on_ok}
use Rattle.gateway_hops.proofs.element.push_interface.Goals as goal

pub returns-in_ok-push-in-Some-clause-valid : goal.returns-in_ok-push-in-Some-clause-valid
returns-in_ok-push-in-Some-clause-valid c =
    let valid = c.in_ok-octets-in-Some.ensures.valid in
    rw c.in-Some.is (on_ok _ (optional_valid (codes "by") (node_text c.in-Some.node.now)
    (AllPass-from_test is_value_byte (codes "by") refl) valid))
