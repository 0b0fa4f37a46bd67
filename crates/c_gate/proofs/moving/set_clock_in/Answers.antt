use Rattle.{std.proofs.Common.{rules, ◌≡◌, ◌∙◌, refl}, headers.specs.Date.IsDated, gateway_exchange.specs.Steps.Dates}
use Rattle.c_gate.proofs.moving.set_clock_in.Goals as goal

pub returns : goal.returns
returns c =
    let dated : IsDated c.args.now × (c.in_ok-date.date ≡ c.args.now) = search rules in
    let dates : Dates c.args.gate.now.connection c.in_ok-date.date c.set_clock.new.self = search rules in
    (dated.0, ((dates.0, dates.1 ∙ dated.1, dates.2), refl))
