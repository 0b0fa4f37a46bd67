use Rattle.cache_pass.proofs.UnstoredLemmas.{leaves-nothing}
use Rattle.cache_pass.proofs.laws.what_is_not_stored_leaves_nothing.Goals as goal

pub returns : goal.returns
returns c = λ old before status response now new after next h unwanted.
    leaves-nothing old before status response now new after unwanted next h
