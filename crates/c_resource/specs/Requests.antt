-- A request, by what a caller hands in.
use Rattle.std.specs.Prelude.{◌≡◌, ◌⊎◌, ℕ, ◌==◌, Bool, false, ◌||◌, List, Option, Some, None, Result, Ok, Err, drop}
use Rattle.std.specs.Prelude.{take, if◌then◌else◌}
use Rattle.{http_header.specs.FieldValue.FieldValue, gateway_messages.specs.Targets.{authority_len, scheme_len}}
use Rattle.gateway_messages.specs.declared.protocol.Protocol.{Protocol, TheVariants.{Http10, Http11}}
use Rattle.decide_resource.specs.declared.denied.Denied.{Denied, TheVariants.{Unauthenticated, Forbidden}}
use Rattle.decide_resource.specs.declared.denied.Denied.TheVariants.{TooManyRequests, Unavailable}
use Rattle.decide_resource.specs.declared.request.RequestContent.{RequestContent, TheVariants.{Absent, Sized, Unsized}}
use Rattle.{c_decisions.specs.Numbers.known, c_parts.specs.declared.status.Failure.{Failure, TheVariants.Refused}}
use Rattle.c_resource.specs.{Values.IsFilledValue, declared.request.DenialParts.DenialParts}
use Rattle.c_resource.specs.declared.request.RequestParts.{RequestParts}

-- ---- the version

-- that of a number: 10, 11, 20 and 30 are versions, and those after 11 count as HTTP/1.1
abbrev pub protocol_of : ℕ → Option Protocol
protocol_of version =
    if version == 10 then Some Http10
    else (if version == 11 || (version == 20 || version == 30) then Some Http11 else None)

abbrev pub IsProtocolAnswer : ℕ → Result Protocol Failure → Type 0
IsProtocolAnswer version (Ok protocol) = protocol_of version ≡ Some protocol
IsProtocolAnswer version (Err failure) = (failure ≡ Refused) × (protocol_of version ≡ None)

-- ---- the content (RFC 9110, section 6.4)

abbrev pub content_of : RequestParts → RequestContent
content_of parts =
    if parts.has_content then (if parts.has_length then Sized parts.length else Unsized) else Absent

-- ---- the authority of a target (RFC 9112, section 3.2.2)

-- the bytes from the front that belong to it
abbrev pub front_authority : List ℕ → List ℕ
front_authority text = take (authority_len text) text

-- the authority of a target in absolute-form; any other target has none
abbrev pub authority_of : List ℕ → Option (List ℕ)
authority_of target =
    if scheme_len target == 0 then None else Some (front_authority (drop (scheme_len target) target))

-- the value of an authority, if there is one
abbrev pub IsAuthorityAnswer : Option (List ℕ) → Result (Option FieldValue) Failure → Type 0
IsAuthorityAnswer None (Ok authority) = authority ≡ None
IsAuthorityAnswer (Some text) (Ok None) = ⊥
IsAuthorityAnswer (Some text) (Ok (Some authority)) = IsFilledValue text (Ok authority)
IsAuthorityAnswer None (Err failure) = ⊥
IsAuthorityAnswer (Some text) (Err failure) = IsFilledValue text (Err failure)

-- ---- why it is denied (RFC 9110, sections 15.5.2, 15.5.4 and 15.6.4; RFC 6585, section 4)

-- the statuses of denied requests, and 0 for one that isn't
abbrev pub is_denial_status : ℕ → Bool
is_denial_status status =
    status == 0 || (status == 401 || (status == 403 || (status == 429 || status == 503)))

-- after how many seconds the client may send another request, if that is known
abbrev pub retry_after : DenialParts → Option ℕ
retry_after given = known given.has_retry_after given.retry_after

-- the denial of a status. 401 has challenges, which may not be empty (section 11.6.1).
abbrev pub IsDenialAnswer : DenialParts → Result (Option Denied) Failure → Type 0
IsDenialAnswer given (Ok None) = given.status ≡ 0
IsDenialAnswer given (Ok (Some (Unauthenticated challenge))) =
    (given.status ≡ 401) × IsFilledValue given.challenge.now (Ok challenge)
IsDenialAnswer given (Ok (Some Forbidden)) = given.status ≡ 403
IsDenialAnswer given (Ok (Some (TooManyRequests seconds))) = (given.status ≡ 429) × (seconds ≡ retry_after given)
IsDenialAnswer given (Ok (Some (Unavailable seconds))) = (given.status ≡ 503) × (seconds ≡ retry_after given)
IsDenialAnswer given (Err failure) =
    ((given.status ≡ 401) × IsFilledValue given.challenge.now (Err failure))
    ⊎ ((failure ≡ Refused) × (is_denial_status given.status ≡ false))
