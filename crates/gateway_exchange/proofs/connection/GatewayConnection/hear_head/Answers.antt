use Rattle.std.proofs.Common.{rules, ◌≡◌, [], inl, inr, refl, Some}
use Rattle.gateway_exchange.proofs.connection.GatewayConnection.hear_head.Goals as goal

pub returns-in-Ok-Forward : goal.returns-in-Ok-Forward
returns-in-Ok-Forward c = let asked : c.args.self.now.asked ≡ Some c.in-Some.asked = search rules in
    let sent = rw c.in-Ok-Forward.field-0-is at c.in-Ok-Forward.ensures in
    let empty : c.new-added.result.items ≡ [] = search rules in
    inl (c.in-Some.asked, asked, inl (c.in-Ok-Forward.sent, sent, c.new-added.result, empty, c.tell_head.ensures))

pub returns-in-Ok-Discard : goal.returns-in-Ok-Discard
returns-in-Ok-Discard c = let asked : c.args.self.now.asked ≡ Some c.in-Some.asked = search rules in
    let dropped = rw c.in-Ok-Discard.field-0-is at c.in-Ok-Discard.ensures in
    inl (c.in-Some.asked, asked, inr (inl (dropped, refl)))

pub returns-in-Ok-Reject : goal.returns-in-Ok-Reject
returns-in-Ok-Reject c = let asked : c.args.self.now.asked ≡ Some c.in-Some.asked = search rules in
    let refused = rw c.in-Ok-Reject.field-0-is at c.in-Ok-Reject.ensures in
    inl (c.in-Some.asked, asked, inr (inr (inl (c.in-Ok-Reject.rejection, refused, c.fail.ensures))))

pub returns-in-Err : goal.returns-in-Err
returns-in-Err c = let asked : c.args.self.now.asked ≡ Some c.in-Some.asked = search rules in
    inl (c.in-Some.asked, asked, inr (inr (inr c.fail-in-Err.ensures)))
