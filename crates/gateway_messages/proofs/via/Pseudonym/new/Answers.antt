use Rattle.{std.proofs.Common.{Err, ap, rules}, gateway_messages.proofs.ViaLemmas.IsFieldValue-token}
use Rattle.gateway_messages.proofs.via.Pseudonym.new.Goals as goal

pub unreachable-requires : goal.unreachable-requires
unreachable-requires c = c.in-Err-Invalid.ensures.invalid.0
    (ap (λ e. Err e) c.in-Err-Invalid.field-0-is) (IsFieldValue-token c.args.text.now (search rules))
