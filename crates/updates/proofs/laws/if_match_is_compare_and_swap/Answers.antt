use Rattle.updates.{specs.Worlds.Message.Going, specs.Worlds.Request.Puts}
use Rattle.updates.{proofs.Lists.found_each, proofs.Steps.holds, proofs.Updates.{swaps, swaps-content}}
use Rattle.updates.proofs.laws.if_match_is_compare_and_swap.Goals as goal

pub returns-clause-version : goal.returns-clause-version
returns-clause-version c first events change unique has = swaps (holds first events) change has unique

pub returns-clause-content : goal.returns-clause-content
returns-clause-content c first events change strong has = swaps-content (holds first events) change has strong

pub returns-clause-read : goal.returns-clause-read
returns-clause-read c first events change has = ((holds first events).changes change has).0

pub returns-clause-sent : goal.returns-clause-sent
returns-clause-sent c first events passed put = found_each _ _ (holds first events).messages (Going passed (Puts put))
