use Rattle.chain.proofs.EventLemmas.{performs-event}
use Rattle.chain.proofs.updating.performed_put_is_an_event.Goals as goal

pub returns : goal.returns
returns c present resource request answer world message passed put etag new at condition shows names needs is sent =
    performs-event world message passed put etag new at condition
    (c.performed_put_names_the_current_version.ensures present resource request answer world.current etag shows names
    needs is sent)
