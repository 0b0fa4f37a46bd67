use Rattle.{std.proofs.{Common.{◌≡◌, true}, lemmas.Bool.false_from_ne_true}, gateway_hops.specs.Nodes.is_obfuscated}
use Rattle.c_gateway.proofs.NodeLemmas.{IsUtf8-obfuscated}
use Rattle.c_gateway.proofs.node.read_hidden.Goals as goal

pub returns-in_default : goal.returns-in_default
returns-in_default c =
    let text = c.args.text.now in
    false_from_ne_true (is_obfuscated text)
    (λ (is : is_obfuscated text ≡ true). c.in_default.ensures.cases.0 (IsUtf8-obfuscated text is))
