use Rattle.decide_resource.proofs.MemberLemmas.{members_select}
use Rattle.decide_resource.proofs.laws.members_alone_select.Goals as goal

pub returns : goal.returns
returns c = members_select
