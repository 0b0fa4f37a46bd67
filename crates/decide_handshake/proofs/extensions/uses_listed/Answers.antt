use Rattle.std.proofs.{Common.rules, lemmas.Iterator.{Consumers.YieldsList-from_first, Search.all_from_yields_List}}
use Rattle.{rfc_fields.specs.Members.{field_left, member_of}, decide_handshake.proofs.ExtensionLemmas.uses_listed_by}
use Rattle.decide_handshake.proofs.extensions.uses_listed.Goals as goal

pub returns-then-is_extension_list : goal.returns-then-is_extension_list
returns-then-is_extension_list c = uses_listed_by _ _ _ (search rules) (all_from_yields_List _ _ _ _ c.all.ensures.ran
    (YieldsList-from_first member_of field_left _ c.new.ensures) (λ x b q k. search rules))
