-- The field lines that tell the next server how a request arrived.
use Rattle.std.specs.Prelude.{ℕ, Bool, true, false, ◌&&◌, List, [], ◌∷◌, ◌++◌, Option, codes, option_to_list}
use Rattle.std.specs.{Prelude.if◌then◌else◌, List.list_all}
use Rattle.{headers.specs.{LineMap.{Field, LineMap}, Lines.Line}, rfc_fields.specs.Members.is_well_formed}
use Rattle.gateway_hops.specs.{Arrivals.{ArrivalParts, scheme_text}, Elements.element_text, Nodes.bare_text}
use Rattle.gateway_hops.specs.declared.fields.{Forwarding.Forwarding, Received.{Received, TheVariants.Dropped}}
use Rattle.gateway_hops.specs.declared.fields.Received.TheVariants.{KeptFromTrusted}

-- the gateway trusts the received fields
abbrev pub is_believed : Received → Bool → Bool
is_believed Dropped is_trusted = false
is_believed KeptFromTrusted is_trusted = is_trusted

abbrev pub believes : Forwarding → ArrivalParts → Bool
believes forwarding arrival = is_believed forwarding.received arrival.is_trusted

-- the received field lines, if they are kept
abbrev pub kept_if : Bool → List Line → List Line
kept_if keeps received = if keeps then received else []

-- Forwarded: what was received, if it is trusted and each of its quotes has its end, and then the gateway's own element
abbrev pub forwarded_lines : Forwarding → ArrivalParts → List Line → List Line
forwarded_lines forwarding arrival received =
    kept_if (believes forwarding arrival && list_all is_well_formed received) received
    ++ (if forwarding.writes_forwarded then element_text arrival ∷ [] else [])

-- X-Forwarded-For: what was received, if it is trusted, and then the client
abbrev pub client_lines : Forwarding → ArrivalParts → List Line → List Line
client_lines forwarding arrival received =
    kept_if (believes forwarding arrival) received
    ++ (if forwarding.writes_x_forwarded then bare_text arrival.client.name ∷ [] else [])

-- what was received, if it is kept and there is some, else the gateway's own value
abbrev pub first_told : Bool → List Line → List Line → List Line
first_told false received own = own
first_told true [] own = own
first_told true (line ∷ lines) own = line ∷ lines

-- X-Forwarded-Host and X-Forwarded-Proto: the first gateway's value, if it is trusted, else the gateway's own
abbrev pub host_lines : Forwarding → ArrivalParts → List Line → List Line
host_lines forwarding arrival received =
    first_told (believes forwarding arrival) received
    (if forwarding.writes_x_forwarded then option_to_list arrival.host else [])

abbrev pub scheme_lines : Forwarding → ArrivalParts → List Line → List Line
scheme_lines forwarding arrival received =
    first_told (believes forwarding arrival) received
    (if forwarding.writes_x_forwarded then scheme_text arrival.scheme ∷ [] else [])

-- the field lines of the four fields, which replace the received ones
abbrev pub forwarding_fields : Forwarding → ArrivalParts → LineMap → List Field
forwarding_fields forwarding arrival received =
    (codes "forwarded", forwarded_lines forwarding arrival (received (codes "forwarded")))
    ∷ (codes "x-forwarded-for", client_lines forwarding arrival (received (codes "x-forwarded-for")))
    ∷ (codes "x-forwarded-host", host_lines forwarding arrival (received (codes "x-forwarded-host")))
    ∷ (codes "x-forwarded-proto", scheme_lines forwarding arrival (received (codes "x-forwarded-proto"))) ∷ []
