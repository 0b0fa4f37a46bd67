use Rattle.{std.proofs.Common.refl, server_laws.proofs.Served.by_match}
use Rattle.server_laws.proofs.laws.strong_tag_is_not_lost.Goals as goal

pub returns : goal.returns
returns c now later left more site look other first second r s a b tag parts again similar x told is strong y =
    by_match again similar x y told refl c.lists_parse_one_way.ensures again.condition parts is strong
