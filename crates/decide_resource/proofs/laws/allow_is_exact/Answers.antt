use Rattle.decide_resource.proofs.AllowLemmas.{allow_is_exact}
use Rattle.decide_resource.proofs.laws.allow_is_exact.Goals as goal

pub returns : goal.returns
returns c present resource request = allow_is_exact resource.rules.items request.method
