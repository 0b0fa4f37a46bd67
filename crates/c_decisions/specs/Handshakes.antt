-- Both ends of the opening handshake of a WebSocket, by what a caller hands in.
use Rattle.std.specs.Prelude.{◌≡◌, ◌≢◌, ◌⊎◌, ℕ, true, false, List, [], length, Option, Some, None, Result, Ok, Err}
use Rattle.std.specs.{Prelude.{◌==◌, All, IsSome, if◌then◌else◌}, Global.Vec}
use Rattle.http.specs.declared.version.{Version.Version, TheConstants.Version.{HTTP_09, HTTP_10, HTTP_11, HTTP_2}}
use Rattle.{http.specs.declared.version.TheConstants.Version.HTTP_3, http_header.specs.FieldValue.FieldValue}
use Rattle.http_header.specs.{FieldValue.IsFieldValue, HeaderMap.Entries, Token.IsToken}
use Rattle.{websocket.specs.Handshake.base64, headers.specs.{LineMap.{LineMap, lines_at}, Lines.Line}}
use Rattle.{headers_section.specs.Section.Holds, decide_cors.specs.SentOrigins.unsent_place}
use Rattle.decide_handshake.specs.{Client.Checks, Messages.{answer_fields, request_fields, status_of}, Server.Answers}
use Rattle.decide_handshake.specs.{Server.IsAccepted, declared.client.Checked.{Checked, TheVariants.{Open, Fail}}}
use Rattle.decide_handshake.specs.declared.client.Flaw.{Flaw}
use Rattle.decide_handshake.specs.declared.client.Flaw.TheVariants as flaw
use Rattle.decide_handshake.specs.{Origins.OriginList, declared.server.HandshakeAnswer.HandshakeAnswer}
use Rattle.decide_handshake.specs.declared.server.HandshakeAnswer.TheVariants.{Switch, BadRequest, UpgradeRequired}
use Rattle.decide_handshake.specs.declared.server.{HandshakeAnswer.TheVariants.Forbidden, Fault.Fault}
use Rattle.decide_handshake.specs.declared.server.Fault.TheVariants as fault
use Rattle.c_parts.specs.{FieldText.field_lines, SectionMap.IsMapOf, declared.status.Failure.Failure}
use Rattle.c_parts.specs.declared.status.Failure.TheVariants.{Refused, Memory, Absent, TooLarge}
use Rattle.c_decisions.specs.{FieldLines.fields_text, Methods.IsMethodOf, Star.is_any, StatusCodes.IsStatusOf}
use Rattle.c_decisions.specs.{Texts.{AreValuesOf, FailsAt}, declared.handshake.AnsweredHandshake.AnsweredHandshake}
use Rattle.c_decisions.specs.declared.handshake.{HandshakeExchange.HandshakeExchange, HandshakeRules.HandshakeRules}
use Rattle.c_decisions.specs.declared.request.RequestTexts.{RequestTexts}

-- ---- the server's end

-- the version that a number says, as 11 says HTTP/1.1
abbrev pub version_of : ℕ → Option Version
version_of number =
    if number == 9 then Some HTTP_09
    else (if number == 10 then Some HTTP_10
    else (if number == 11 then Some HTTP_11
    else (if number == 20 then Some HTTP_2 else (if number == 30 then Some HTTP_3 else None))))

abbrev pub IsVersionOf : ℕ → Result Version Failure → Type 0
IsVersionOf number (Ok version) = version_of number ≡ Some version
IsVersionOf number (Err failure) = (failure ≡ Refused) × (version_of number ≡ None)

-- the lines of the text are origins that browsers send, or aren't
abbrev pub AreSent : List ℕ → Type 0
AreSent text = (is_any (field_lines text) ≡ false) × (unsent_place (field_lines text) ≡ None)

abbrev pub HasUnsent : List ℕ → Type 0
HasUnsent text = (is_any (field_lines text) ≡ false) × IsSome (unsent_place (field_lines text))

-- The origins of a text: any if its only line is a star, else those of the lines. `Refused` also if browsers don't send
-- one of them.
abbrev pub AreOriginsOf : List ℕ → Result OriginList Failure → Type 0
AreOriginsOf text (Ok None) = is_any (field_lines text) ≡ true
AreOriginsOf text (Ok (Some origins)) =
    AreSent text × All IsFieldValue (field_lines text) × (origins ≡ field_lines text)
AreOriginsOf text (Err Refused) = FailsAt text Refused ⊎ HasUnsent text
AreOriginsOf text (Err failure) = FailsAt text failure

-- the place of each rule in the list of typed_headers.h
abbrev pub fault_number : Fault → ℕ
fault_number fault.NotGet = 1
fault_number fault.OldHttp = 2
fault_number fault.NotHttp11 = 3
fault_number fault.NoHost = 4
fault_number fault.NoUpgrade = 5
fault_number fault.NoConnection = 6
fault_number fault.NoKey = 7
fault_number fault.MalformedProtocols = 8
fault_number fault.MalformedExtensions = 9

abbrev pub fault_in : HandshakeAnswer → ℕ
fault_in (BadRequest fault) = fault_number fault
fault_in (Switch accept protocol) = 0
fault_in UpgradeRequired = 0
fault_in Forbidden = 0

-- the status of an answer, the fault, and the field lines of its fields
pub record IsShownHandshake (answer : HandshakeAnswer) (shown : AnsweredHandshake) : Type 0 where
  pub status : shown.facts.status ≡ status_of answer
  pub fault : shown.facts.fault ≡ fault_in answer
  pub text : shown.text.items ≡ fields_text (answer_fields answer)

-- all is as it was handed in, and this is the server's answer
pub record IsAnsweredHandshake (request : RequestTexts) (number : ℕ) (rules : HandshakeRules)
    (shown : AnsweredHandshake) : Type 0 where
  pub is_method : IsToken request.method.now
  pub version : Version
  pub is_version : version_of number ≡ Some version
  pub own : List FieldValue
  pub are_own : AreValuesOf rules.protocols.now own
  pub allowed : OriginList
  pub are_allowed : AreOriginsOf rules.origins.now (Ok allowed)
  pub fields : Entries FieldValue
  pub holds : Holds request.section.now fields
  pub answer : HandshakeAnswer
  pub answers : Answers request.method.now version (lines_at fields) allowed own answer
  pub is_shown : IsShownHandshake answer shown

-- the handshake is accepted, or its answer has fields
abbrev pub HasFields : List ℕ → Version → LineMap → OriginList → List FieldValue → Type 0
HasFields method version request allowed own =
    ((key : Line) × IsAccepted method version request allowed key)
    ⊎ ((answer : HandshakeAnswer) × Answers method version request allowed own answer × (answer_fields answer ≢ []))

-- all is as it was handed in, and the server's answer has fields, which take memory
pub record IsAnsweredByFields (request : RequestTexts) (number : ℕ) (rules : HandshakeRules) : Type 0 where
  pub is_method : IsToken request.method.now
  pub version : Version
  pub is_version : version_of number ≡ Some version
  pub own : List FieldValue
  pub are_own : AreValuesOf rules.protocols.now own
  pub allowed : OriginList
  pub are_allowed : AreOriginsOf rules.origins.now (Ok allowed)
  pub fields : Entries FieldValue
  pub holds : Holds request.section.now fields
  pub has_fields : HasFields request.method.now version (lines_at fields) allowed own

-- the answer is the server's, or the failure of reading what was handed in; `Memory` also if the answer has fields
abbrev pub AnswersHandshake : RequestTexts → ℕ → HandshakeRules → Result AnsweredHandshake Failure → Type 0
AnswersHandshake request number rules (Ok shown) = IsAnsweredHandshake request number rules shown
AnswersHandshake request number rules (Err failure) =
    IsMethodOf request.method.now (Err failure)
    ⊎ (IsVersionOf number (Err failure)
    ⊎ (FailsAt rules.protocols.now failure
    ⊎ (AreOriginsOf rules.origins.now (Err failure)
    ⊎ (IsMapOf request.section.now (Err failure)
    ⊎ ((failure ≡ Memory) × IsAnsweredByFields request number rules)))))

-- ---- the client's end

-- the field lines of a handshake with this nonce; `Refused` only if it hasn't sixteen bytes
abbrev pub Offers : List ℕ → Result (Vec ℕ) Failure → Type 0
Offers nonce (Ok text) = (length nonce ≡ 16) × (text.items ≡ fields_text (request_fields (base64 nonce)))
Offers nonce (Err Refused) = length nonce ≢ 16
Offers nonce (Err Memory) = length nonce ≡ 16
Offers nonce (Err Absent) = ⊥
Offers nonce (Err TooLarge) = ⊥

-- the place of each rule in the list of typed_headers.h
abbrev pub flaw_number : Flaw → ℕ
flaw_number flaw.NotSwitched = 1
flaw_number flaw.NoUpgrade = 2
flaw_number flaw.NoConnection = 3
flaw_number flaw.WrongAccept = 4
flaw_number flaw.MalformedExtensions = 5
flaw_number flaw.UnaskedExtension = 6
flaw_number flaw.UnaskedProtocol = 7

abbrev pub checked_number : Checked → ℕ
checked_number Open = 0
checked_number (Fail flaw) = flaw_number flaw

-- the status and the fields of both sections are those that were handed in, and this is what the client finds
pub record IsChecked (exchange : HandshakeExchange) (number : ℕ) : Type 0 where
  pub asked : Entries FieldValue
  pub is_asked : Holds exchange.sent.now asked
  pub told : Entries FieldValue
  pub is_told : Holds exchange.response.now told
  pub checked : Checked
  pub checks : Checks (lines_at asked) exchange.status (lines_at told) checked
  pub shown : number ≡ checked_number checked

abbrev pub ChecksResponse : HandshakeExchange → Result ℕ Failure → Type 0
ChecksResponse exchange (Ok number) = IsStatusOf exchange.status (Ok exchange.status) × IsChecked exchange number
ChecksResponse exchange (Err failure) =
    IsStatusOf exchange.status (Err failure)
    ⊎ (IsMapOf exchange.sent.now (Err failure) ⊎ IsMapOf exchange.response.now (Err failure))
