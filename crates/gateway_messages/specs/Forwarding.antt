-- The field lines that a gateway forwards of a message (RFC 9110, section 7.6).
use Rattle.std.specs.Prelude.{◌≡◌, ◌≢◌, ℕ, Bool, true, false, ◌||◌, ◌&&◌, not, List, [], ◌∷◌, ◌++◌, All, Option, Some}
use Rattle.std.specs.{Prelude.{None, bytes_eq, codes, decimal, is_some, option_map, option_to_list}, List.list_any}
use Rattle.{headers.specs.{Date.fixdate, LineMap.LineMap, Lines.Line}, rfc_fields.specs.Scan.Member}
use Rattle.gateway_messages.specs.{FieldLines.Field, Framing.{coding_line, length_line}, HopByHop.connection_options}
use Rattle.gateway_messages.specs.{HopByHop.is_hop_by_hop, Spellings.is_misspelt, Via.via_line}
use Rattle.gateway_messages.specs.declared.{framing.Framing.Framing, gateway.Gateway.Gateway}
use Rattle.gateway_messages.specs.declared.protocol.Protocol.{Protocol}

-- what the gateway itself says in the message that it sends: the version in which it received the message, the Host
-- that takes the place of the received one, the Date that a response lacks, in seconds since 1970, how often the
-- message
-- may still be forwarded, and what is stated about the content
pub record Message : Type 0 where
  pub protocol : Protocol
  pub host : Option Line
  pub date : Option ℕ
  pub hops : Option ℕ
  pub framing : Framing

-- ---- the two kinds of fields

-- the field is for the recipient alone (section 7.6.1), or is consumed by it (section 11.7)
abbrev pub IsHopByHop : Gateway → LineMap → List ℕ → Type 0
IsHopByHop gateway message name =
    is_hop_by_hop gateway.consumes_credentials (connection_options message) name ≡ true

-- the field is for all recipients
abbrev pub IsEndToEnd : Gateway → LineMap → List ℕ → Type 0
IsEndToEnd gateway message name =
    is_hop_by_hop gateway.consumes_credentials (connection_options message) name ≡ false

-- the fields that frame a message
abbrev pub framing_names : List (List ℕ)
framing_names = codes "content-length" ∷ codes "transfer-encoding" ∷ []

-- the fields that a gateway doesn't always forward as received, though they are end-to-end
abbrev pub own_names : List (List ℕ)
own_names = codes "via" ∷ codes "host" ∷ codes "date" ∷ codes "max-forwards" ∷ framing_names

-- ---- what is forwarded

-- the new field line in place of the received ones, if there is one
abbrev pub replaced : Option Line → List Line → List Line
replaced None received = received
replaced (Some line) received = line ∷ []

-- the field lines that are forwarded, name by name
pub record Forwards (gateway : Gateway) (message : Message) (received forwarded : LineMap) : Type 0 where
  -- end-to-end fields keep their field lines, in order, unless the name is misspelt
  pub end_to_end : (name : List ℕ) → IsEndToEnd gateway received name → is_misspelt gateway name ≡ false
      → All (λ own. own ≢ name) own_names → forwarded name ≡ received name
  pub misspelt : (name : List ℕ) → is_misspelt gateway name ≡ true → forwarded name ≡ []
  -- hop-by-hop fields have none, but for Transfer-Encoding, which is the gateway's own for the next connection
  pub hop_by_hop : (name : List ℕ) → IsHopByHop gateway received name → name ≢ codes "transfer-encoding"
      → forwarded name ≡ []
  pub via : forwarded (codes "via")
      ≡ received (codes "via") ++ via_line message.protocol gateway.pseudonym ∷ []
  pub host : forwarded (codes "host") ≡ replaced message.host (received (codes "host"))
  pub date : forwarded (codes "date") ≡ replaced (option_map fixdate message.date) (received (codes "date"))
  pub max_forwards : forwarded (codes "max-forwards")
      ≡ replaced (option_map decimal message.hops) (received (codes "max-forwards"))
  pub content_length : forwarded (codes "content-length") ≡ option_to_list (length_line message.framing)
  pub transfer_encoding : forwarded (codes "transfer-encoding") ≡ option_to_list (coding_line message.framing)

-- ---- one name at a time

-- there is a new field line of this name
abbrev pub is_replaced : {A : Type 0} → Option A → List ℕ → List ℕ → Bool
is_replaced line own name = is_some line && bytes_eq name own

-- the gateway writes the field itself, in place of what it received
abbrev pub is_rewritten : Message → List ℕ → Bool
is_rewritten message name =
    list_any (bytes_eq name) framing_names || (is_replaced message.host (codes "host") name
    || (is_replaced message.date (codes "date") name || is_replaced message.hops (codes "max-forwards") name))

-- the received field lines of the name are forwarded: it is end-to-end, isn't misspelt, and isn't written anew
unfoldable pub goes_on : Gateway → Message → List Member → List ℕ → Bool
goes_on gateway message options name =
    not (is_hop_by_hop gateway.consumes_credentials options name || (is_misspelt gateway name
    || is_rewritten message name))

-- the field line of this name, if there is one
abbrev pub field_if : List ℕ → Option Line → List Field
field_if name None = []
field_if name (Some line) = (name, line) ∷ []

-- what the gateway writes
abbrev pub own_fields : List ℕ → Message → List Field
own_fields pseudonym message =
    (codes "via", via_line message.protocol pseudonym) ∷ (field_if (codes "host") message.host
    ++ (field_if (codes "date") (option_map fixdate message.date)
    ++ (field_if (codes "max-forwards") (option_map decimal message.hops)
    ++ (field_if (codes "content-length") (length_line message.framing)
    ++ field_if (codes "transfer-encoding") (coding_line message.framing)))))
