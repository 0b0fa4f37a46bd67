use Rattle.std.proofs.{Common.rules, lemmas.Iterator.{Consumers.YieldsList-from_first, Search.all_from_yields_List}}
use Rattle.{rfc_fields.specs.Members.{field_left, member_of}, decide_handshake.specs.Fields.is_protocol}
use Rattle.decide_handshake.proofs.fields.are_protocols.Goals as goal

pub returns : goal.returns
returns c = all_from_yields_List is_protocol _ _ _ c.all.ensures.ran
    (YieldsList-from_first member_of field_left _ c.new.ensures) (λ x b q k. search rules)
