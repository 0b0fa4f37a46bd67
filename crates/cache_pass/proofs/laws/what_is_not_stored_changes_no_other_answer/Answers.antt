use Rattle.{cache_pass.{proofs.UnstoredLemmas.alike, specs.Passes.request_of_pass}, std.proofs.Common.refl}
use Rattle.cache_pass.proofs.laws.what_is_not_stored_changes_no_other_answer.Goals as goal

pub returns : goal.returns
returns c = λ settings ones others world is are.
    alike settings (λ pass. request_of_pass (world.passes pass)) ones others world is (λ pass. refl) are
