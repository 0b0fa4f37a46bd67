use Rattle.rfc_fields.proofs.JoinLemmas.{join_keeps_members as law}
use Rattle.rfc_fields.proofs.laws.joined_lines_keep_members.Goals as goal

pub returns : goal.returns
returns c = law
