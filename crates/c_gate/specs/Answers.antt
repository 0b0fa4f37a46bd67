-- How a request is answered.
use Rattle.std.specs.Prelude.{◌≡◌, ◌⊎◌, ℕ, ◌==◌, ◌||◌, ◌&&◌, Bool, true, false, not, List, [], ◌∷◌, ◌++◌, map, filter}
use Rattle.std.specs.Prelude.{length, bytes_eq, codes, decimal, if◌then◌else◌, Option, Some, None, Result, Ok, Err}
use Rattle.headers.specs.{ContentLength.content_length_reads, LineMap.lines_at, Lines.Line, Typed.ReadsNothing}
use Rattle.{http.specs.StatusCode.IsStatusCode, http_header.specs.{FieldValue.FieldValue, HeaderMap.{Entries, pairs}}}
use Rattle.http1.specs.{Conn.{data_refusal, finish_refusal, is_empty}, Fields.Header, declared.conn.BodySize.BodySize}
use Rattle.http1.specs.declared.{conn.BodySize.TheVariants.{Empty, Known}, error.WriteError.WriteError}
use Rattle.{http1_typed.specs.Parts.reason_of, headers_section.specs.Section.Holds}
use Rattle.server_stream.specs.Steps as Stream
use Rattle.gateway_exchange.specs.Steps.{Answers, ChangesClient, EndsGiving, Gives, IsAsking, RefusesGiving}
use Rattle.gateway_exchange.specs.{Steps.{Adds, RefusesAdding, RefusesInGiving, Settles}, declared.pass.Heard.Heard}
use Rattle.gateway_exchange.specs.declared.connection.{GatewayConnection.GatewayConnection, Stage.TheVariants.Giving}
use Rattle.gateway_exchange.specs.declared.{decision.AskedRequest.AskedRequest, own.Own.TheVariants.Chosen}
use Rattle.c_parts.specs.{SectionMap.IsMapOf, declared.status.Failure.{Failure, TheVariants.{Refused, Memory}}}
use Rattle.{c_handles.specs.declared.held.HeldGate.HeldGate, c_gate.specs.Calls.Becomes}
use Rattle.http1.specs.declared.error.WriteError.TheVariants as Write

-- ---- the gateway's own answer

-- the request that waits is answered by the status; if none waits nothing changes
abbrev pub AnswersBy : ℕ → GatewayConnection → GatewayConnection → Type 0
AnswersBy status old new =
    (¬ (IsAsking old) → new ≡ old)
    × (IsAsking old → (between : GatewayConnection) × Settles old between × Answers between (Chosen status) new)

-- `Refused`, and nothing changes, if the number is no status
abbrev pub AnswersNumber : ℕ → HeldGate → HeldGate → Result (Unit {0}) Failure → Type 0
AnswersNumber number old new (Ok tt) = IsStatusCode number × Becomes (AnswersBy number) old new
AnswersNumber number old new (Err failure) = (failure ≡ Refused) × ¬ (IsStatusCode number) × (new ≡ old)

-- ---- the caller's

-- what an error of a write is to a call
abbrev pub write_failure : WriteError → Failure
write_failure Write.OutOfMemory = Memory
write_failure error = Refused

-- the step of a call that writes, or the failure of why it can't
abbrev pub WritesBy : (GatewayConnection → GatewayConnection → Type 0)
    → (GatewayConnection → WriteError → GatewayConnection → Type 0) → HeldGate → HeldGate
    → Result (Unit {0}) Failure → Type 0
WritesBy P Q old new (Ok tt) = Becomes P old new
WritesBy P Q old new (Err failure) =
    (error : WriteError) × (failure ≡ write_failure error) × Becomes (λ before after. Q before error after) old new

-- each field line of a map
abbrev pub header_lines : Entries FieldValue → List Header
header_lines fields = map (λ line. (line.0, line.1.bytes)) (pairs fields)

-- the origin's response that waits has these field lines after those that are forwarded
abbrev pub AddsLines : List Header → HeldGate → HeldGate → Result (Unit {0}) Failure → Type 0
AddsLines lines = WritesBy (λ before after. (h : Heard) × Adds h lines before after)
    (λ before error after. RefusesAdding lines before error after)

-- The lines are those of a section. If one of them is no field, or an allocation fails, nothing changes.
abbrev pub AddsSection : List ℕ → HeldGate → HeldGate → Result (Unit {0}) Failure → Type 0
AddsSection section old new (Ok tt) =
    (fields : Entries FieldValue) × Holds section fields × AddsLines (header_lines fields) old new (Ok tt)
AddsSection section old new (Err failure) =
    ((IsMapOf section (Err failure) ⊎ (failure ≡ Memory)) × (new ≡ old))
    ⊎ ((fields : Entries FieldValue) × Holds section fields × AddsLines (header_lines fields) old new (Err failure))

abbrev pub is_head : Option AskedRequest → Bool
is_head (Some a) = bytes_eq a.head.method (codes "HEAD")
is_head None = false

-- A response to HEAD and a 304 have no content, whatever length their fields state (RFC 9110, sections 9.3.2 and
-- 15.4.5).
abbrev pub size_of : Option AskedRequest → ℕ → ℕ → BodySize
size_of asked status length = if is_head asked || (status == 304) then Empty else Known length

-- The field lines of a map except those of Content-Length: the connection writes its own, by what is sent (RFC 9110,
-- section 8.6).
abbrev pub kept_lines : Entries FieldValue → List Header
kept_lines fields =
    map (λ line. (line.0, line.1.bytes))
    (filter (λ line. not (bytes_eq line.0 (codes "content-length"))) (pairs fields))

-- Content-Length may be sent to HEAD and in a 304, where it is the length that the content of a 200 to GET has, and not
-- in a 204 (RFC 9110, section 8.6). That the number is right is the caller's word.
abbrev pub may_state : Option AskedRequest → ℕ → Bool
may_state asked status = not (status == 204) && is_empty (size_of asked status 0)

-- the number, in plain form, that all field lines of Content-Length state, if there is one and it may be stated
abbrev pub IsStated : Bool → List Line → Option (List ℕ) → Type 0
IsStated false lines stated = stated ≡ None
IsStated true lines (Some text) =
    (length : ℕ) × content_length_reads lines (record { 0 = length }) × (text ≡ decimal length)
IsStated true lines None = ReadsNothing content_length_reads lines

-- at most one field line of Content-Length
abbrev pub stated_lines : Option (List ℕ) → List Header
stated_lines (Some text) = (codes "content-length", text) ∷ []
stated_lines None = []

-- what is sent for a map: its other field lines, and that one
abbrev pub AreSent : Option AskedRequest → ℕ → Entries FieldValue → List Header → Type 0
AreSent asked status fields lines =
    (stated : Option (List ℕ))
    × IsStated (may_state asked status) (lines_at fields (codes "content-length")) stated
    × (lines ≡ kept_lines fields ++ stated_lines stated)

module _ (status length : ℕ) where
  -- the head of a response with these field lines is put
  abbrev pub RespondsWith : List Header → HeldGate → HeldGate → Result (Unit {0}) Failure → Type 0
  RespondsWith lines old new = WritesBy
      (λ before after. Gives before status (reason_of status) lines (size_of before.asked status length) after)
      (λ before error after. RefusesGiving before status (reason_of status) lines (size_of before.asked status length)
      error after) old new

  -- the head is put with what is sent for the section's fields
  abbrev pub RespondsFor : List ℕ → HeldGate → HeldGate → Result (Unit {0}) Failure → Type 0
  RespondsFor section old new answer =
      IsStatusCode status × (fields : Entries FieldValue) × Holds section fields
      × (lines : List Header) × AreSent old.connection.asked status fields lines × RespondsWith lines old new answer

  -- If the number is no status, or the section has a line that is no field, nothing changes; nor if an allocation fails
  -- before the head is put.
  abbrev pub Responds : List ℕ → HeldGate → HeldGate → Result (Unit {0}) Failure → Type 0
  Responds section old new (Ok tt) = RespondsFor section old new (Ok tt)
  Responds section old new (Err failure) =
      ((failure ≡ Refused) × ¬ (IsStatusCode status) × (new ≡ old))
      ⊎ ((IsMapOf section (Err failure) × (new ≡ old))
      ⊎ (((failure ≡ Memory) × (new ≡ old))
      ⊎ RespondsFor section old new (Err failure)))

-- a piece of its content is put
abbrev pub PushesPiece : List ℕ → HeldGate → HeldGate → Result (Unit {0}) Failure → Type 0
PushesPiece piece = WritesBy
    (λ before after. (before.stage ≡ Giving) × ChangesClient (λ old new. Stream.Puts old piece new) before after)
    (λ before error after. RefusesInGiving (data_refusal before.client.server.writing (length piece)) before error
    after)

-- its end is put
abbrev pub EndsPieces : HeldGate → HeldGate → Result (Unit {0}) Failure → Type 0
EndsPieces = WritesBy
    (λ before after. EndsGiving before [] after)
    (λ before error after. RefusesInGiving (finish_refusal before.client.server.writing []) before error after)
