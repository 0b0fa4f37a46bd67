use Rattle.updates.{specs.Worlds.Request.Puts, specs.Worlds.Response.Status204, proofs.Steps.holds}
use Rattle.updates.proofs.laws.success_is_true.Goals as goal

pub returns : goal.returns
returns c first events put version =
    (holds first events).received (record { request = Puts put; response = Status204 version })
