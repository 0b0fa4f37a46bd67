use Rattle.{std.proofs.Common.{Err, ap, rules}, gateway_hops.proofs.NodeLemmas.obfuscated_valid}
use Rattle.gateway_hops.proofs.obfuscated.Obfuscated.new.Goals as goal

pub unreachable-requires : goal.unreachable-requires
unreachable-requires c = c.in-Err-Invalid.ensures.invalid.0 (ap (λ e. Err e) c.in-Err-Invalid.field-0-is)
    (obfuscated_valid c.args.text.now (search rules))
