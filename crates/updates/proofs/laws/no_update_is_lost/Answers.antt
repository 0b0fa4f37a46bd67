use Rattle.{std.proofs.Common.{sym, ◌∙◌}, updates.proofs.{Lists.Has_slice_get, Steps.holds, Updates.{once, swaps}}}
use Rattle.updates.proofs.laws.no_update_is_lost.Goals as goal

pub returns : goal.returns
returns c first events place other change rival unique at_place at_other guarded rival_guarded same =
    let all = holds first events in
    once first _ _ all.linked place other change rival at_place at_other
    (sym (swaps all change (Has_slice_get _ place change at_place) unique guarded) ∙ same
    ∙ swaps all rival (Has_slice_get _ other rival at_other) unique rival_guarded)
