-- What a gateway's connection has, as text.
use Rattle.std.specs.{Prelude.{◌≡◌, ◌≢◌, ℕ, List, ◌++◌, find, codes, Option, Some, None, Result, Ok, Err}, Global.Vec}
use Rattle.{std.specs.Option.option_map, http_header.specs.{FieldValue.FieldValue, HeaderMap.get, Token.lowercase}}
use Rattle.gateway_connection.specs.declared.event.OriginResponse.{OriginResponse}
use Rattle.gateway_hops.specs.{Arrivals.scheme_text, declared.arrival.Scheme.Scheme}
use Rattle.gateway_exchange.specs.{Decisions.{is_host_line, value_or_none}, Own.own_status, Steps.output_of}
use Rattle.gateway_exchange.specs.declared.{decision.AskedRequest.AskedRequest, own.Own.Own, pass.Heard.Heard}
use Rattle.c_parts.specs.{Endings.{Writes, done}, FieldText.IsNameOf, declared.status.Failure.Failure}
use Rattle.c_parts.specs.declared.status.Failure.TheVariants.{Refused, Memory, Absent}
use Rattle.{c_pass.specs.Validating.map_text, c_connection.specs.Calls.{front_of, is_found}}
use Rattle.c_handles.specs.{Handles.OnHeld, declared.held.{Held.Held, HeldGate.HeldGate}}
use Rattle.c_handles.specs.declared.held.Held.TheVariants as held
use Rattle.c_gate.{specs.Calls.gate_in, specs.declared.reading.GateText.GateText}
use Rattle.c_gate.specs.declared.reading.GateText.TheVariants.{Method, Target, Authority, Field, Piece}

-- ---- bytes that are copied

-- this of the request that waits or is passed on, or `Absent` if there is none
abbrev pub of_asked : {V : Type 0} → (AskedRequest → Result V Failure) → Option AskedRequest → Result V Failure
of_asked f None = Err Absent
of_asked f (Some a) = f a

-- the host that a request is for, and maybe a port
abbrev pub authority_of : AskedRequest → List ℕ
authority_of a = value_or_none (find is_host_line a.outgoing.fields.items)

-- the first line of its field of this name
abbrev pub field_of : List ℕ → AskedRequest → Result (List ℕ) Failure
field_of name a = is_found (option_map (λ (value : FieldValue). value.bytes) (get a.head.fields name))

-- that line, or why the name is none
abbrev pub OnName : Result (List ℕ) Failure → Option AskedRequest → Result (List ℕ) Failure → Type 0
OnName (Ok name) asked answer = answer ≡ of_asked (field_of name) asked
OnName (Err failure) asked answer = answer ≡ Err failure

-- that line, of the field of this name in any case
abbrev pub IsField : List ℕ → Option AskedRequest → Result (List ℕ) Failure → Type 0
IsField name asked answer = (read : Result (List ℕ) Failure) × IsNameOf name read × OnName read asked answer

-- the bytes of this kind, or why there are none
abbrev pub IsText : GateText → HeldGate → Result (List ℕ) Failure → Type 0
IsText Method gate answer = answer ≡ of_asked (λ a. Ok a.head.method) gate.connection.asked
IsText Target gate answer = answer ≡ of_asked (λ a. Ok a.outgoing.target) gate.connection.asked
IsText Authority gate answer = answer ≡ of_asked (λ a. Ok (authority_of a)) gate.connection.asked
IsText (Field name) gate answer = IsField name.now gate.connection.asked answer
IsText Piece gate answer = answer ≡ Ok gate.connection.piece

-- a call that writes these bytes, and leaves the handle as it is
abbrev pub Shows : GateText → (handle new_handle : Option Held) → (old new : List ℕ) → (before written status : ℕ)
    → Type 0
Shows text handle new_handle old new before written status =
    (new_handle ≡ handle)
    × Writes (λ bytes. bytes) (λ _. done) (OnHeld (IsText text) (gate_in handle)) old new before written status

-- ---- what waits to be written

-- of a connection or a tunnel, for its client and for its origin
abbrev pub outputs_in : Option Held → Option (List ℕ × List ℕ)
outputs_in (Some (held.Gate gate)) = Some (gate.connection.client.output.items, output_of gate.connection.origin)
outputs_in (Some (held.Tunnel tunnel)) = Some (tunnel.to_client.items, tunnel.to_origin.items)
outputs_in other = None

-- The first bytes that wait for the side of this number: 0 for the client, 1 for the origin. Of another number the
-- answer is `Refused`.
pub record IsFront (side most : ℕ) (waiting : List ℕ × List ℕ) (answer : Result (List ℕ) Failure) : Type 0 where
  pub of_client : side ≡ 0 → answer ≡ Ok (front_of waiting.0 most)
  pub of_origin : side ≡ 1 → answer ≡ Ok (front_of waiting.1 most)
  pub of_none : side ≢ 0 → side ≢ 1 → answer ≡ Err Refused

-- ---- text that is made

-- this text of a value, or no memory is left
abbrev pub IsMade : {X : Type 0} → (X → List ℕ) → X → Result (Vec ℕ) Failure → Type 0
IsMade f value (Ok text) = text.items ≡ f value
IsMade f value (Err failure) = failure ≡ Memory

-- the field lines of the request, each with a byte 10
abbrev pub AreFields : HeldGate → Result (Vec ℕ) Failure → Type 0
AreFields gate answer = OnHeld (IsMade (λ (a : AskedRequest). map_text a.head.fields)) gate.connection.asked answer

-- the URI of its target: the scheme, the host in lower case, and the target as it is sent
abbrev pub key_text : Scheme → AskedRequest → List ℕ
key_text scheme a = scheme_text scheme ++ codes "://" ++ lowercase (authority_of a) ++ a.outgoing.target

abbrev pub IsKey : HeldGate → Result (Vec ℕ) Failure → Type 0
IsKey gate answer = OnHeld (IsMade (key_text gate.scheme)) gate.connection.asked answer

-- the status and the field lines of a response
abbrev pub IsResponse : OriginResponse → Result (ℕ × Vec ℕ) Failure → Type 0
IsResponse response (Ok told) = (told.0 ≡ response.status) × (told.1.items ≡ map_text response.fields)
IsResponse response (Err failure) = failure ≡ Memory

-- those of the response that waits or is passed on
abbrev pub IsAnswered : HeldGate → Result (ℕ × Vec ℕ) Failure → Type 0
IsAnswered gate answer = OnHeld IsResponse (option_map (λ (h : Heard). h.response) gate.connection.heard) answer

-- the status of the gateway's own answer
abbrev pub own_answer : Option Own → Result ℕ Failure
own_answer own = is_found (option_map own_status own)
