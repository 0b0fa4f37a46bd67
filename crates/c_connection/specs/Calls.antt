-- What the calls on a handle do to its connection.
use Rattle.std.specs.Prelude.{◌≡◌, ◌≢◌, ◌⊎◌, ℕ, ◌≤◌, List, [], ◌∷◌, ◌++◌, length, Option, Some, None, ⊤, codes, true}
use Rattle.std.specs.{Prelude.{Result, Ok, Err, false, take, min, slice_range}, Option.option_map, Global.Vec}
use Rattle.{http_header.specs.{FieldValue.FieldValue, HeaderMap.get}, http.specs.declared.request.Request.Request}
use Rattle.http.specs.{declared.{request.Parts.Parts, version.TheConstants.Version.HTTP_10}, Request.{body_of, head_of}}
use Rattle.{http.specs.StatusCode.code_digits, http_uri.specs.Uri.{uri_path, uri_query}}
use Rattle.http_server.specs.{declared.state.Config.Config, Refusal.refusal_text}
use Rattle.http_server.specs.declared.state.Reason.TheVariants as reason
use Rattle.server_connection.specs.declared.{piece.OpenRange.OpenRange, plan.ResponsePlan.ResponsePlan}
use Rattle.server_connection.specs.{declared.connection.Event.Event, Plan.IsBlank}
use Rattle.server_connection.specs.declared.connection.Event.TheVariants as event
use Rattle.server_connection.{specs.declared.machine.Phase.TheVariants.{Receiving, Asking}, specs.Connection.HasRested}
use Rattle.server_connection.{specs.Connection.{IsReached, IsSaid}, specs.Machine.{HandsOut as HandsOutBytes}}
use Rattle.server_connection.specs.Machine.{HandsOutRange, HasNoRange, IsNextRange, Moves, Offers, OffersCount}
use Rattle.c_parts.specs.{Endings.{Writes, done}, FieldText.IsNameOf, declared.status.Failure.Failure}
use Rattle.c_parts.specs.declared.status.Failure.TheVariants.{Refused, Memory, Absent}
use Rattle.{c_pass.specs.Validating.map_text, c_handles.specs.{Handles.{OnHeld, connection_in}, Views.IsSame}}
use Rattle.c_handles.specs.declared.{held.Held.Held, view.View.View}
use Rattle.c_handles.specs.declared.held.Held.TheVariants as held
use Rattle.c_handles.specs.declared.held.HeldConnection.{HeldConnection}
use Rattle.c_connection.{specs.declared.host.HostHistory.HostHistory, specs.declared.reading.Text.Text}
use Rattle.c_connection.specs.declared.reading.Text.TheVariants.{Method, Path, Query, Field, Content, Output, TimeOut}

-- the plan is the next that the host gives, for that request
abbrev pub host_plans : HostHistory → Request (List ℕ) → ResponsePlan → HostHistory → Type 0
host_plans before request plan now = now.given ≡ before.given ++ (request, plan) ∷ []

-- what the host has open is its own
abbrev pub host_gives : HostHistory → ℕ → List ℕ → Type 0
host_gives now start bytes = ⊤

-- An open handle of a connection stays open, and this becomes of it. Any other stays as it was, and the answer is
-- `Absent`.
abbrev pub OnConnection : {V : Type 0} → (HeldConnection → HeldConnection → Result V Failure → Type 0)
    → (old new : Option Held) → Result V Failure → Type 0
OnConnection P (Some (held.Connection old)) (Some (held.Connection new)) answer = P old new answer
OnConnection P (Some (held.Connection old)) other answer = ⊥
OnConnection P old new answer = (answer ≡ Err Absent) × (new ≡ old)

-- these bytes were received, and these written
abbrev pub HasMoved : List ℕ → List ℕ → HeldConnection → HeldConnection → Type 0
HasMoved received sent old new =
    (now : HostHistory)
    → Moves host_plans host_gives old.connection.machine now received sent new.connection.machine now

-- the limits of a connection: requests have at most so long a content, and a head of at most 16 KiB
abbrev pub HasLimits : ℕ → Config → Type 0
HasLimits most config =
    (config.max_body_len ≡ most) × (config.max_pending ≡ 65536) × (config.limits.max_head_len ≡ 16384)
    × (config.limits.max_extensions_len ≡ 16384) × (config.limits.max_trailers_len ≡ 16384)

-- A connection that has received nothing, and whose requests have at most so long a content; or no memory is left.
abbrev pub IsConnectionHeld : ℕ → Result Held Failure → Type 0
IsConnectionHeld most (Ok (held.Connection held)) =
    (config : Config) × HasLimits most config
    × ((first : HostHistory) → IsReached host_plans host_gives config first held.connection.machine first [] [])
    × IsBlank held.plan × (held.has_begun ≡ false) × (held.rejection ≡ 0)
IsConnectionHeld most (Ok other) = ⊥
IsConnectionHeld most (Err failure) = failure ≡ Memory

-- only the connection itself is another one
abbrev pub KeepsPlan : HeldConnection → HeldConnection → Type 0
KeepsPlan old new = new ≡ record old { connection = new.connection }

-- All of the bytes were received, or none if out of memory. If the connection wants no input nothing changes.
abbrev pub Receives : List ℕ → HeldConnection → HeldConnection → Result (Unit {0}) Failure → Type 0
Receives bytes old new (Ok tt) =
    HasMoved bytes [] old new × (new ≡ record old { connection = new.connection; has_begun = true })
Receives bytes old new (Err Memory) = HasMoved [] [] old new × KeepsPlan old new
Receives bytes old new (Err failure) =
    (failure ≡ Refused) × (new ≡ old) × ¬ (old.connection.machine.phase ≡ Receiving)

-- The input ended. If the connection wants no input nothing changes.
abbrev pub Finishes : HeldConnection → HeldConnection → Result (Unit {0}) Failure → Type 0
Finishes old new (Ok tt) = HasMoved [] [] old new × (new.connection.machine.ended ≡ true) × KeepsPlan old new
Finishes old new (Err failure) =
    (failure ≡ Refused) × (new ≡ old) × ¬ (old.connection.machine.phase ≡ Receiving)

-- The request that waits was answered by the plan, and the next plan is blank. If none waits nothing changes.
abbrev pub Responds : HeldConnection → HeldConnection → Result (Unit {0}) Failure → Type 0
Responds old new (Ok tt) =
    ((before now : HostHistory) → host_plans before old.connection.machine.request old.plan now
    → Moves host_plans host_gives old.connection.machine before [] [] new.connection.machine now)
    × (new ≡ record old { connection = new.connection; plan = new.plan; has_begun = false }) × IsBlank new.plan
Responds old new (Err failure) =
    (failure ≡ Refused) × (new ≡ old) × ¬ (old.connection.machine.phase ≡ Asking)

-- So many of the bytes that the connection offers were written. If it offers fewer nothing changes.
abbrev pub HandsOut : ℕ → HeldConnection → HeldConnection → Result (Unit {0}) Failure → Type 0
HandsOut count old new (Ok tt) =
    ((now : HostHistory) (bytes : List ℕ) → length bytes ≡ count → Offers (host_gives now) old.connection.machine bytes
    → Moves host_plans host_gives old.connection.machine now [] bytes new.connection.machine now)
    × (count ≤ length old.connection.machine.output.items
    → HandsOutBytes old.connection.machine new.connection.machine count)
    × HandsOutRange old.connection.machine new.connection.machine count
    × OffersCount old.connection.machine count × KeepsPlan old new
HandsOut count old new (Err failure) =
    (failure ≡ Refused) × (new ≡ old) × ¬ (OffersCount old.connection.machine count)

-- the number of an event
abbrev pub event_number : Event → ℕ
event_number event.NeedsInput = 0
event_number event.Request = 1
event_number event.Output = 2
event_number (event.Closed why) = 3
event_number event.Aborted = 4

-- the status of the response by which a connection that says so rejects what it received, or 0
abbrev pub IsRejectedBy : Event → ℕ → Type 0
IsRejectedBy (event.Closed (reason.Refused why)) status = code_digits status ≡ slice_range (refusal_text why) 9 12
IsRejectedBy other status = status ≡ 0

-- The connection took steps, and says what it wants. Where it needs input, each whole request that was received is
-- answered, and all of the answers were written.
abbrev pub Wants : HeldConnection → HeldConnection → Result ℕ Failure → Type 0
Wants old new (Ok number) =
    HasMoved [] [] old new
    × (new ≡ record old { connection = new.connection; rejection = new.rejection })
    × (said : Event) × (number ≡ event_number said) × IsSaid new.connection.machine said
    × IsRejectedBy said new.rejection
    × (said ≡ event.NeedsInput → (config : Config) (first now : HostHistory) (received sent : List ℕ)
    → IsReached host_plans host_gives config first old.connection.machine now received sent
    → HasRested host_plans host_gives first new.connection.machine now received sent)
Wants old new (Err failure) = ⊥

-- the response 408 (RFC 9110, section 15.5.9)
abbrev pub timed_out_text : List ℕ
timed_out_text = codes "HTTP/1.1 408 Request Timeout\r\nconnection: close\r\ncontent-length: 0\r\n\r\n"

-- more was received since the last response, the request isn't whole, and nothing waits to be written
abbrev pub IsLate : HeldConnection → Type 0
IsLate held =
    (held.connection.machine.phase ≡ Receiving) × (held.has_begun ≡ true) × (held.connection.machine.output.items ≡ [])

-- the response to a client that is too slow, or none is due
abbrev pub IsTimedOut : HeldConnection → Result (List ℕ) Failure → Type 0
IsTimedOut held (Ok text) = (text ≡ timed_out_text) × IsLate held
IsTimedOut held (Err failure) = (failure ≡ Absent) × ¬ (IsLate held)

-- the head of the request that waits
abbrev pub head_asked : HeldConnection → Parts
head_asked held = head_of held.connection.machine.request

-- this is the answer of the request that waits; if none waits, the failure is `Refused`
abbrev pub OnAsked : Result (List ℕ) Failure → HeldConnection → Result (List ℕ) Failure → Type 0
OnAsked found held answer =
    ((held.connection.machine.phase ≡ Asking) × (answer ≡ found))
    ⊎ ((¬ (held.connection.machine.phase ≡ Asking)) × (answer ≡ Err Refused))

-- the bytes, or `Absent`
abbrev pub is_found : {V : Type 0} → Option V → Result V Failure
is_found None = Err Absent
is_found (Some value) = Ok value

-- the first line of the field of this name, if the request has the field
abbrev pub field_asked : HeldConnection → List ℕ → Option (List ℕ)
field_asked held name = option_map (λ (value : FieldValue). value.bytes) (get (head_asked held).headers name)

-- that line, or why the name is none
abbrev pub OnName : Result (List ℕ) Failure → HeldConnection → Result (List ℕ) Failure → Type 0
OnName (Ok name) held answer = OnAsked (is_found (field_asked held name)) held answer
OnName (Err failure) held answer = answer ≡ Err failure

-- that line, of the field of this name in any case
abbrev pub IsField : List ℕ → HeldConnection → Result (List ℕ) Failure → Type 0
IsField name held answer = (read : Result (List ℕ) Failure) × IsNameOf name read × OnName read held answer

-- the field lines of the request that waits, each after its name; without one, the failure is `Refused`
abbrev pub AreFields : HeldConnection → Result (Vec ℕ) Failure → Type 0
AreFields held (Ok text) =
    (held.connection.machine.phase ≡ Asking) × (text.items ≡ map_text (head_asked held).headers)
AreFields held (Err Memory) = held.connection.machine.phase ≡ Asking
AreFields held (Err failure) = (failure ≡ Refused) × ¬ (held.connection.machine.phase ≡ Asking)

-- the version of the request that waits: 10 of HTTP/1.0, else 11
abbrev pub IsVersion : HeldConnection → Result ℕ Failure → Type 0
IsVersion held (Ok number) =
    (held.connection.machine.phase ≡ Asking)
    × ((((head_asked held).version ≡ HTTP_10) × (number ≡ 10))
    ⊎ (((head_asked held).version ≢ HTTP_10) × (number ≡ 11)))
IsVersion held (Err failure) = (failure ≡ Refused) × ¬ (held.connection.machine.phase ≡ Asking)

-- the first bytes that wait to be written, as many as there is room for
abbrev pub front_of : List ℕ → ℕ → List ℕ
front_of bytes most = take (min (length bytes) most) bytes

-- the bytes of this kind, or why there are none
abbrev pub IsText : Text → HeldConnection → Result (List ℕ) Failure → Type 0
IsText Method held answer = OnAsked (Ok (head_asked held).method) held answer
IsText Path held answer = OnAsked (Ok (uri_path (head_asked held).uri)) held answer
IsText Query held answer = OnAsked (is_found (uri_query (head_asked held).uri)) held answer
IsText (Field name) held answer = IsField name.now held answer
IsText Content held answer = OnAsked (Ok (body_of held.connection.machine.request)) held answer
IsText (Output most) held answer = answer ≡ Ok (front_of held.connection.machine.output.items most)
IsText TimeOut held answer = IsTimedOut held answer

-- a call that writes these bytes, and leaves the handle as it is
abbrev pub Shows : Text → (view new_view : View) → (old new : List ℕ) → (before written status : ℕ) → Type 0
Shows text view new_view old new before written status =
    IsSame view new_view
    × Writes (λ bytes. bytes) (λ _. done) (OnHeld (IsText text) (connection_in view.held)) old new before written status

-- the range that is to be sent next; `Absent` if there is none
abbrev pub IsRangeNext : HeldConnection → Result OpenRange Failure → Type 0
IsRangeNext held (Ok extent) = IsNextRange held.connection.machine extent
IsRangeNext held (Err failure) = (failure ≡ Absent) × HasNoRange held.connection.machine

-- the status by which it rejected what it received
abbrev pub IsRejection : HeldConnection → Result ℕ Failure → Type 0
IsRejection held (Ok code) = (code ≡ held.rejection) × (held.rejection ≢ 0)
IsRejection held (Err failure) = (failure ≡ Absent) × (held.rejection ≡ 0)

-- the status of the plan, and how long its content is
abbrev pub planned : HeldConnection → ℕ × ℕ
planned held = (held.plan.status, held.plan.len)
