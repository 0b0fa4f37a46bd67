-- Which fields are meant for one connection (RFC 9110, section 7.6.1).
use Rattle.std.specs.{Prelude.{◌≡◌, ℕ, Bool, true, false, ◌||◌, ◌&&◌, List, [], ◌∷◌, bytes_eq, codes}, List.list_all}
use Rattle.{std.specs.List.list_any, headers.specs.LineMap.LineMap, rfc_fields.specs.Directives.is_same_token}
use Rattle.rfc_fields.specs.{Directives.is_token_member, Members.field_members, Scan.Member}
use Rattle.gateway_messages.specs.declared.{gateway.Gateway.Gateway, rejection.Rejection.Rejection}

-- fields of one connection, whether a connection option names them or not
abbrev pub hop_by_hop_fields : List (List ℕ)
hop_by_hop_fields =
    codes "connection" ∷ codes "keep-alive" ∷ codes "proxy-connection" ∷ codes "te" ∷ codes "transfer-encoding"
    ∷ codes "upgrade" ∷ []

-- fields between a client and the proxy that asks for its credentials (section 11.7)
abbrev pub proxy_fields : List (List ℕ)
proxy_fields =
    codes "proxy-authenticate" ∷ codes "proxy-authentication-info" ∷ codes "proxy-authorization" ∷ []

-- fields that no connection option may ever name: they frame the message, route it, or are meant for all recipients
abbrev pub protected_fields : List (List ℕ)
protected_fields =
    codes "host" ∷ codes "content-length" ∷ codes "transfer-encoding" ∷ codes "via" ∷ codes "max-forwards"
    ∷ codes "date" ∷ codes "cache-control" ∷ codes "authorization" ∷ codes "cookie" ∷ codes "set-cookie" ∷ []

-- the connection options: the members of Connection
abbrev pub connection_options : LineMap → List Member
connection_options message = field_members true (message (codes "connection"))

-- a connection option is the name, in any case
abbrev pub is_named : List Member → List ℕ → Bool
is_named options name = list_any (is_same_token name) options

-- each connection option is a token
abbrev pub are_options : List Member → Bool
are_options options = list_all is_token_member options

-- a connection option names a field that is always protected, or one of these further ones
abbrev pub names_protected : List (List ℕ) → List Member → Bool
names_protected further options = list_any (is_named options) protected_fields || list_any (is_named options) further

-- Connection is a list of tokens, and none of them names a field that this gateway protects
pub record HasFairOptions (gateway : Gateway) (message : LineMap) : Type 0 where
  pub listed : are_options (connection_options message) ≡ true
  pub unprotected : names_protected gateway.protected.items (connection_options message) ≡ false

-- why Connection is rejected
abbrev pub RejectsOptions : Gateway → LineMap → Rejection → Type 0
RejectsOptions gateway message Rejection.InvalidOption = are_options (connection_options message) ≡ false
RejectsOptions gateway message Rejection.ProtectedOption =
    names_protected gateway.protected.items (connection_options message) ≡ true
RejectsOptions gateway message rejection = ⊥

-- ---- which fields they are

-- the field is of one connection, whatever the options are. This gateway may be the proxy that asked for credentials.
abbrev pub is_known : Bool → List ℕ → Bool
is_known consumes name =
    list_any (bytes_eq name) hop_by_hop_fields || (consumes && list_any (bytes_eq name) proxy_fields)

abbrev pub is_hop_by_hop : Bool → List Member → List ℕ → Bool
is_hop_by_hop consumes options name = is_known consumes name || is_named options name
