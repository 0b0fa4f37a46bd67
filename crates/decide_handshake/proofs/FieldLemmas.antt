-- What the fields that both ends set have for members.
use Rattle.std.{proofs.Common.{◌≡◌, [], ◌∷◌, true, refl, codes}, specs.List.list_all}
use Rattle.{http_header.specs.Token.is_token_byte, headers.specs.LineMap.LineMap}
use Rattle.rfc_fields.specs.{Directives.is_token_member, Members.field_members, Scan.{Member.Whole, pieces, push}}
use Rattle.decide_handshake.specs.Fields.{ListsUpgrade, ListsWebsocket, is_protocol}

websocket_member : field_members true (codes "websocket" ∷ []) ≡ Whole (codes "websocket") ∷ []
unfolding pieces push
websocket_member = refl

websocket_protocol : list_all is_protocol (Whole (codes "websocket") ∷ []) ≡ true
unfolding is_token_byte
websocket_protocol = refl

upgrade_member : field_members true (codes "upgrade" ∷ []) ≡ Whole (codes "upgrade") ∷ []
unfolding pieces push
upgrade_member = refl

upgrade_token : list_all is_token_member (Whole (codes "upgrade") ∷ []) ≡ true
unfolding is_token_byte
upgrade_token = refl

pub lists_websocket : (map : LineMap) → map (codes "upgrade") ≡ codes "websocket" ∷ [] → ListsWebsocket map
lists_websocket map is = record {
  protocols = rw is (rw websocket_member websocket_protocol);
  listed = rw is (rw websocket_member refl);
}

pub lists_upgrade : (map : LineMap) → map (codes "connection") ≡ codes "upgrade" ∷ [] → ListsUpgrade map
lists_upgrade map is = record {
  tokens = rw is (rw upgrade_member upgrade_token);
  listed = rw is (rw upgrade_member refl);
}
