use Rattle.rfc_fields.proofs.JoinLemmas.{keeps_members_before as law}
use Rattle.rfc_fields.proofs.laws.members_before_stay.Goals as goal

pub returns : goal.returns
returns c = law
