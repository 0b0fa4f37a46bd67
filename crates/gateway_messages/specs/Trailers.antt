-- The trailer fields that a gateway forwards (RFC 9110, sections 6.5 and 7.6.1; RFC 9112, section 7.1.2).
use Rattle.std.specs.Prelude.{◌≡◌, ◌≢◌, ℕ, Bool, true, false, ◌&&◌, not, List, [], ◌∷◌, bytes_eq, codes}
use Rattle.{std.specs.List.list_any, headers.specs.LineMap.LineMap, rfc_fields.specs.Scan.Member}
use Rattle.gateway_messages.specs.{Forwarding.{IsEndToEnd, IsHopByHop}, HopByHop.is_hop_by_hop}
use Rattle.gateway_messages.specs.declared.{framing.Framing.{Framing, TheVariants.Chunked}, gateway.Gateway.Gateway}

-- The fields whose definitions permit them in a trailer section (RFC 9110, section 6.5.1): sections 8.8.3, 11.6.3,
-- 11.7.3 and 14.3 of RFC 9110, RFC 9421, RFC 9530, and Server Timing.
abbrev pub trailer_names : List (List ℕ)
trailer_names =
    codes "accept-ranges" ∷ codes "authentication-info" ∷ codes "content-digest" ∷ codes "etag"
    ∷ codes "proxy-authentication-info" ∷ codes "repr-digest" ∷ codes "server-timing" ∷ codes "signature"
    ∷ codes "signature-input" ∷ []

-- a trailer section may have a field of this name, and this gateway doesn't protect it
abbrev pub may_trail : Gateway → List ℕ → Bool
may_trail gateway name =
    list_any (bytes_eq name) trailer_names && not (list_any (bytes_eq name) gateway.protected.items)

-- the received field lines of the name are forwarded: it is end-to-end, and a trailer section may have it
unfoldable pub trailer_goes_on : Gateway → List Member → List ℕ → Bool
trailer_goes_on gateway options name =
    not (is_hop_by_hop gateway.consumes_credentials options name) && may_trail gateway name

-- ---- what is forwarded

-- The trailer fields that are forwarded of a message, name by name. The framing is that of the message as it is
-- forwarded: only chunked content is followed by trailer fields.
pub record ForwardsTrailers (gateway : Gateway) (framing : Framing) (message received forwarded : LineMap) : Type 0
  where
    -- a field that is allowed there and is end-to-end keeps its field lines, in order
    pub end_to_end : framing ≡ Chunked → (name : List ℕ) → IsEndToEnd gateway message name
        → may_trail gateway name ≡ true → forwarded name ≡ received name
    pub hop_by_hop : (name : List ℕ) → IsHopByHop gateway message name → forwarded name ≡ []
    pub header_only : (name : List ℕ) → may_trail gateway name ≡ false → forwarded name ≡ []
    pub unchunked : framing ≢ Chunked → (name : List ℕ) → forwarded name ≡ []
