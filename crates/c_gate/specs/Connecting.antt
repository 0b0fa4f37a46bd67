-- Which target a CONNECT may go to (RFC 9110, section 9.3.6).
use Rattle.std.specs.Prelude.{◌≡◌, ℕ, true, List, bytes_eq, codes, position, if◌then◌else◌, Option, Some, None}
use Rattle.{std.specs.Prelude.{Result, Ok, Err}, headers_section.specs.Section.input_lines}
use Rattle.headers_syntax.specs.AsciiCase.{same_name}
use Rattle.gateway_exchange.specs.declared.connection.GatewayConnection.{GatewayConnection}
use Rattle.gateway_exchange.specs.declared.decision.AskedRequest.{AskedRequest}
use Rattle.c_parts.specs.declared.status.Failure.{Failure, TheVariants.{Refused, Absent}}
use Rattle.c_handles.specs.declared.held.HeldGate.{HeldGate}
use Rattle.c_gate.specs.{Answers.AnswersBy, Calls.Becomes}

-- The number of the first of these texts that is the authority: the same host, in any case (section 4.2.3), and the
-- same port. One in another spelling is another.
abbrev pub place_in : (targets : List (List ℕ)) → (authority : List ℕ) → Option ℕ
place_in targets authority = position (λ target. same_name target authority) targets

-- The same of the target of a CONNECT, which is an authority. `None` if the request is no CONNECT.
abbrev pub place_for : List ℕ → AskedRequest → Option (Option ℕ)
place_for targets a =
    if bytes_eq a.head.method (codes "CONNECT") then Some (place_in (input_lines targets) a.outgoing.target)
    else None

abbrev pub place_asked : List ℕ → Option AskedRequest → Option (Option ℕ)
place_asked targets None = None
place_asked targets (Some a) = place_for targets a

-- no request follows, unless the connection becomes a tunnel
abbrev pub last : GatewayConnection → GatewayConnection
last m = record m { is_last = true }

-- it may go to this target; to none, it is answered by 403
abbrev pub ConnectsAt : Option ℕ → HeldGate → HeldGate → Result ℕ Failure → Type 0
ConnectsAt (Some n) old new answer = (answer ≡ Ok n) × Becomes (λ m made. made ≡ last m) old new
ConnectsAt None old new answer = (answer ≡ Err Refused) × Becomes (λ m made. AnswersBy 403 (last m) made) old new

abbrev pub ConnectsBy : Option (Option ℕ) → HeldGate → HeldGate → Result ℕ Failure → Type 0
ConnectsBy (Some place) old new answer = ConnectsAt place old new answer
ConnectsBy None old new answer = (answer ≡ Err Absent) × (new ≡ old)

-- a CONNECT may go to the targets that are lines of a text; to other requests nothing happens
abbrev pub ConnectsTo : List ℕ → HeldGate → HeldGate → Result ℕ Failure → Type 0
ConnectsTo targets old new answer = ConnectsBy (place_asked targets old.connection.asked) old new answer
