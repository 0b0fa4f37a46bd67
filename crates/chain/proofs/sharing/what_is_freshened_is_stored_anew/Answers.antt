use Rattle.chain.proofs.SharingLemmas.{of-new, stored-anew, tag-same}
use Rattle.chain.proofs.sharing.what_is_freshened_is_stored_anew.Goals as goal

pub returns : goal.returns
returns c policy request update exchange old new shared get also strong about fresh reusable origin clients world pass
    target version date place head one at asks has of says tagged = (
      tag-same policy shared request update exchange old new get also strong about fresh reusable target version date
          head
          one of says tagged,
      of-new policy shared request update exchange old new get also strong about fresh reusable target version date
          head one
          of says tagged,
      stored-anew policy shared request update exchange old new get also strong about fresh reusable target version date
          head one of says tagged origin clients world pass place at asks has,
    )
