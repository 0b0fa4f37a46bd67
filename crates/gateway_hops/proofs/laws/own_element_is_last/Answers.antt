use Rattle.gateway_hops.proofs.LastLemmas.{own_last}
use Rattle.gateway_hops.proofs.laws.own_element_is_last.Goals as goal

pub returns : goal.returns
returns c = own_last c.lists_parse_one_way.ensures c.joined_lines_keep_members.ensures
