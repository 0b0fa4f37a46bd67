use Rattle.rfc_fields.proofs.CommentLemmas.{one_way}
use Rattle.rfc_fields.proofs.laws.comments_parse_one_way.Goals as goal

pub returns : goal.returns
returns c = one_way
