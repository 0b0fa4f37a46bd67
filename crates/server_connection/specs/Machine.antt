-- What holds of a connection between its steps.
use Rattle.std.specs.Prelude.{◌≡◌, ◌≢◌, ℕ, ◌+◌, ◌<◌, ◌≤◌, ◌⊎◌, Bool, true, false, List, [], ◌∷◌, ◌++◌, length, drop}
use Rattle.std.specs.Prelude.{Option, Some, None, if◌then◌else◌, ◌==◌}
use Rattle.http.specs.{declared.request.{Parts.Parts, Request.Request}, Request.{body_of, head_of, with_body}}
use Rattle.http1.specs.Framing.{method_kind}
use Rattle.http1.specs.Message as Wire
use Rattle.http1.specs.{declared.server.Server.Server, Server.{is_head, IsClosed}}
use Rattle.http_server.specs.declared.state.{Config.Config, State.{State, TheVariants.{Open, Closing, Aborted}}}
use Rattle.http_server.specs.declared.state.{Reason.TheVariants.{Asked, EndOfInput, Refused}, Refusal.Refusal}
use Rattle.http_server.specs.{declared.state.Refusal.TheVariants.BodyTooLarge, Encoding.answering, Exchange.Call}
use Rattle.http_server.specs.Exchange.{Chain, ExpectsContinue, IsInterim, ReadsCall, Serves, continue_text}
use Rattle.http_server.specs.{History.{History, output}, Machine.{Core, HasRequest, Holds, MayAbort}}
use Rattle.{http_server.specs.Refusal.refusal_text, server_connection.specs.declared.machine.Machine.Machine}
use Rattle.server_connection.specs.declared.machine.Phase.{Phase, TheVariants.{Receiving, Asking, Responding}}
use Rattle.server_connection.specs.declared.piece.{OpenRange.OpenRange, Piece.{Piece, TheVariants.Range}}
use Rattle.server_connection.specs.{declared.plan.ResponsePlan.ResponsePlan, Encoding.Frames, Literal.IsLiteral}
use Rattle.server_connection.specs.{Literal.SendsCalls, Pieces.{Gives, Advances, CanShorten, Shortens, rest_of}}
use Rattle.server_connection.specs.Plan.{Plans, Answers, sent_pieces}

-- what a connection has received and sent, and the exchanges that it has completed
pub record Past : Type 0 where
  pub received : List ℕ
  pub sent : List ℕ
  pub calls : List Call

abbrev pub new_past : Past
new_past = record { received = []; sent = []; calls = [] }

abbrev pub with_calls : Past → List Call → Past
with_calls p calls = record p { calls = calls }

abbrev pub history_of : Machine → Past → History
history_of m p = record {
  state = m.state;
  received = p.received;
  ended = m.ended;
  unread = m.input.items;
  calls = p.calls;
  sent = p.sent;
  pending = m.output.items;
}

abbrev pub head_now : Machine → Option Parts
head_now m = if m.has_head then Some (head_of m.request) else None

-- what the lemmas of `http_server` read of a connection
abbrev pub core : Machine → Past → Core
core m p = record {
  config = m.config;
  history = history_of m p;
  server = m.server;
  head = head_now m;
  body = m.body.items;
}

-- the same once the request was received whole: its content is in it
abbrev pub core_asking : Machine → Past → Core
core_asking m p = record (core m p) { body = body_of m.request }

-- The response to the next request is being sent, by the plan of an application that was in one state before it and is
-- in another one since. Its head and the front of its content are out, but for what was lost.
pub record Sends {H : Type 0} (plans : Plans H) (gives : H → Gives) (before now : H) (config : Config) (h : History)
    : Type 0 where
  pub text : List ℕ
  pub rest : List ℕ
  pub serves : Serves config h.received h.calls text rest
  pub interim : List ℕ
  pub is_interim : IsInterim config.limits rest interim
  pub message : Wire.Request
  pub request : Request (List ℕ)
  pub reads : ReadsCall config rest message request h.unread
  pub plan : ResponsePlan
  pub planned : plans before request plan now
  pub bodiless : Bool
  pub kind : bodiless ≡ is_head (method_kind message.head.method)
  pub server : Server
  pub head : List ℕ
  pub tail : List ℕ
  pub frames : Frames bodiless plan (answering config.limits message.head reads.reads.framing) [] [] server head tail
  pub front : List ℕ
  pub left : List Piece
  pub advances : Advances (gives now) (sent_pieces bodiless plan) front left
  pub lost : List ℕ
  pub out : output h ++ lost ≡ (text ++ interim) ++ (head ++ front)

-- what of a connection counts while a response is sent
pub record View : Type 0 where
  pub config : Config
  pub history : History
  pub server : Server
  pub tail : List ℕ
  pub left : List Piece
  pub has_head : Bool
  pub body : List ℕ

abbrev pub view : Machine → Past → View
view m p = record {
  config = m.config;
  history = history_of m p;
  server = m.server;
  tail = m.tail.items;
  left = m.left.items;
  has_head = m.has_head;
  body = m.body.items;
}

-- the connection sends that response, and the bytes before it are known literally
pub record IsSending {H : Type 0} (plans : Plans H) (gives : H → Gives) (first before now : H) (v : View) : Type 0 where
  pub response : Sends plans gives before now v.config v.history
  pub sends : SendsCalls plans gives v.config first before v.history.received v.history.calls response.text
      response.rest
  pub server : v.server ≡ response.server
  pub tail : v.tail ≡ response.tail
  pub left : v.history.state ≡ Open → v.left ≡ response.left
  pub head : v.has_head ≡ false
  pub body : v.body ≡ []
  pub going : v.history.state ≡ Open → response.lost ≡ []
  pub state : (v.history.state ≡ Open) ⊎ (v.history.state ≡ Aborted)

-- the exchanges lead from one state of the application to another
abbrev pub HasPlanned : {H : Type 0} → Plans H → (H → Gives) → H → H → Past → Type 0
HasPlanned plans gives first now p = Chain (Answers plans gives) first p.calls now

-- what of a connection counts while no response is sent
pub record Account : Type 0 where
  pub config : Config
  pub state : State
  pub received : List ℕ
  pub calls : List Call
  pub output : List ℕ
  pub has_head : Bool

abbrev pub account : Machine → Past → Account
account m p = record {
  config = m.config;
  state = m.state;
  received = p.received;
  calls = p.calls;
  output = p.sent ++ m.output.items;
  has_head = m.has_head;
}

-- The output is known literally, but for what was lost if the connection was aborted. Until the head of the next
-- request was read, nothing follows the responses.
pub record IsLaid {H : Type 0} (plans : Plans H) (gives : H → Gives) (first last : H) (a : Account) : Type 0 where
  pub lost : List ℕ
  pub literal : IsLiteral plans gives a.config first last a.state a.received a.calls (a.output ++ lost)
  pub whole : a.state ≢ Aborted → lost ≡ []
  pub serves : a.state ≡ Open → Serves a.config a.received a.calls literal.text literal.rest
  pub between : a.state ≡ Open → a.has_head ≡ false → literal.later ≡ []

-- The exchanges lead to a state of the application: to the one now, unless the connection was aborted. The output is
-- known literally.
abbrev pub HasAnswered : {H : Type 0} → Plans H → (H → Gives) → H → H → Machine → Past → Type 0
HasAnswered {H} plans gives first now m p =
    (last : H) × Chain (Answers plans gives) first p.calls last × (m.state ≢ Aborted → last ≡ now)
    × IsLaid plans gives first last (account m p)

-- In each phase: the next request is being received; or it was, and waits for its plan; or the response is being sent.
abbrev pub RunsAt : Phase → {H : Type 0} → Plans H → (H → Gives) → H → Machine → H → Past → Type 0
RunsAt Receiving plans gives first m now p = HasAnswered plans gives first now m p × Holds (core m p)
RunsAt Asking plans gives first m now p = HasAnswered plans gives first now m p × HasRequest (core_asking m p)
RunsAt Responding {H} plans gives first m now p =
    (before : H) × HasPlanned plans gives first before p × IsSending plans gives first before now (view m p)

-- The invariant: a connection with this past, whose application was in the first state when it began.
abbrev pub Runs : {H : Type 0} → Plans H → (H → Gives) → H → Machine → H → Past → Type 0
Runs plans gives first m now p = RunsAt m.phase plans gives first m now p

-- a step leads from one state of the connection and the application to another: nothing is read and nothing is handed
-- out
pub record Leads {H : Type 0} (plans : Plans H) (gives : H → Gives) (old : Machine) (before : H) (new : Machine)
    (now : H)
    : Type 0 where
  pub config : new.config ≡ old.config
  pub ended : new.ended ≡ old.ended
  pub runs : (first : H) (p : Past) → Runs plans gives first old before p
      → (calls : List Call) × Runs plans gives first new now (with_calls p calls)

-- a step in which no exchange is completed, and the application stays as it is
pub record Stays {H : Type 0} (plans : Plans H) (gives : H → Gives) (old : Machine) (now : H) (new : Machine)
    : Type 0 where
  pub config : new.config ≡ old.config
  pub ended : new.ended ≡ old.ended
  pub runs : (first : H) (p : Past) → Runs plans gives first old now p → Runs plans gives first new now p

-- a step that isn't one of sending
pub record Keeps (old new : Machine) : Type 0 where
  pub config : new.config ≡ old.config
  pub ended : new.ended ≡ old.ended
  pub phase : new.phase ≡ old.phase

-- such a step puts nothing into the output, and closes the connection only where no request has begun,
pub record PutsNothing (old new : Machine) : Type 0 where
  pub state : (new.state ≡ old.state) ⊎ ((new.state ≡ Closing EndOfInput) × (old.has_head ≡ false))
  pub output : new.output.items ≡ old.output.items
  pub has_head : new.has_head ≡ false → old.has_head ≡ false

-- or it puts in the interim response that the request at the head of these bytes waits for,
pub record PutsContinue (stream : List ℕ) (old new : Machine) : Type 0 where
  pub state : new.state ≡ old.state
  pub output : new.output.items ≡ old.output.items ++ continue_text
  pub has_head : new.has_head ≡ true
  pub expects : ExpectsContinue old.config.limits stream

-- or the response that says why the request is rejected
pub record PutsRefusal (why : Refusal) (old new : Machine) : Type 0 where
  pub state : new.state ≡ Closing (Refused why)
  pub output : new.output.items ≡ old.output.items ++ refusal_text why

-- where memory ran out, nothing more is sent
abbrev pub HasAborted : Machine → Type 0
HasAborted new = (new.state ≡ Aborted) × (new.output.items ≡ [])

abbrev pub Refuses : Refusal → Machine → Machine → Type 0
Refuses why old new = PutsRefusal why old new ⊎ HasAborted new

abbrev pub GoesOn : Machine → Machine → Type 0
GoesOn old new = PutsNothing old new ⊎ ((why : Refusal) × PutsRefusal why old new) ⊎ HasAborted new

abbrev pub Opens : List ℕ → Machine → Machine → Type 0
Opens stream old new = PutsContinue stream old new ⊎ GoesOn old new

-- a step of sending changes the output, the state and what is left
pub record KeepsRest (old new : Machine) : Type 0 where
  pub config : new.config ≡ old.config
  pub ended : new.ended ≡ old.ended
  pub input : new.input.items ≡ old.input.items
  pub server : new.server ≡ old.server
  pub has_head : new.has_head ≡ old.has_head
  pub body : new.body.items ≡ old.body.items
  pub tail : new.tail.items ≡ old.tail.items

-- the response can't be sent to its end, and its bytes that were not written are dropped
pub record CutsOff (old new : Machine) : Type 0 where
  pub rest : KeepsRest old new
  pub phase : new.phase ≡ old.phase
  pub state : new.state ≡ Aborted
  pub output : new.output.items ≡ []

-- these bytes were put into the output, and these pieces are left
pub record PutsBytes (old : Machine) (bytes : List ℕ) (after : List Piece) (new : Machine) : Type 0 where
  pub rest : KeepsRest old new
  pub phase : new.phase ≡ old.phase
  pub state : new.state ≡ old.state
  pub output : new.output.items ≡ old.output.items ++ bytes
  pub left : new.left.items ≡ after

abbrev pub Puts : Machine → List ℕ → Machine → Type 0
Puts old bytes new = PutsBytes old bytes old.left.items new ⊎ CutsOff old new

-- the first bytes of a range, and the range after them
pub record PutsRange (gives : Gives) (extent : OpenRange) (old new : Machine) : Type 0 where
  pub bytes : List ℕ
  pub fits : length bytes ≤ extent.len
  pub given : gives extent.start bytes
  pub puts : PutsBytes old bytes (Range (rest_of extent (length bytes)) ∷ old.left.items) new

abbrev pub SendsRange : Gives → OpenRange → Machine → Machine → Type 0
SendsRange gives extent old new =
    ((extent.len ≡ 0) × (new ≡ old)) ⊎ PutsRange gives extent old new ⊎ CutsOff old new

-- the response has ended
pub record Ends (old new : Machine) : Type 0 where
  pub rest : KeepsRest old new
  pub phase : new.phase ≡ Receiving
  pub output : new.output.items ≡ old.output.items ++ old.tail.items
  pub state : (IsClosed old.server × (new.state ≡ Closing Asked)) ⊎
      ((¬ (IsClosed old.server)) × (new.state ≡ old.state))

abbrev pub Finishes : Machine → Machine → Type 0
Finishes old new = Ends old new ⊎ CutsOff old new

-- some pieces were sent
pub record MovesOn (gives : Gives) (old new : Machine) : Type 0 where
  pub bytes : List ℕ
  pub advances : Advances gives old.left.items bytes new.left.items
  pub puts : PutsBytes old bytes new.left.items new

abbrev pub SendsOn : Gives → Machine → Machine → Type 0
SendsOn gives old new = MovesOn gives old new ⊎ ((old.left.items ≡ []) × Ends old new) ⊎ CutsOff old new

-- the response that a plan says begins, or it is none that `http1` sends
pub record Begins (plan : ResponsePlan) (bodiless : Bool) (old new : Machine) : Type 0 where
  pub config : new.config ≡ old.config
  pub ended : new.ended ≡ old.ended
  pub input : new.input.items ≡ old.input.items
  pub has_head : new.has_head ≡ old.has_head
  pub body : new.body.items ≡ old.body.items
  pub state : new.state ≡ old.state
  pub phase : new.phase ≡ Responding
  pub frames : Frames bodiless plan old.server old.output.items [] new.server new.output.items new.tail.items
  pub left : new.left.items ≡ sent_pieces bodiless plan

-- nothing more is sent
pub record Aborts (old new : Machine) : Type 0 where
  pub config : new.config ≡ old.config
  pub ended : new.ended ≡ old.ended
  pub input : new.input.items ≡ old.input.items
  pub phase : new.phase ≡ old.phase
  pub state : new.state ≡ Aborted
  pub output : new.output.items ≡ []

abbrev pub Starts : ResponsePlan → Bool → Machine → Machine → Type 0
Starts plan bodiless old new = Begins plan bodiless old new ⊎ Aborts old new

-- what stays when the connection reads or writes
pub record KeepsState (old new : Machine) : Type 0 where
  pub config : new.config ≡ old.config
  pub state : new.state ≡ old.state
  pub phase : new.phase ≡ old.phase
  pub server : new.server ≡ old.server
  pub has_head : new.has_head ≡ old.has_head
  pub request : new.request ≡ old.request
  pub body : new.body.items ≡ old.body.items
  pub left : new.left.items ≡ old.left.items
  pub tail : new.tail.items ≡ old.tail.items

-- so many bytes of the output were written
pub record HandsOut (old new : Machine) (count : ℕ) : Type 0 where
  pub rest : KeepsState old new
  pub ended : new.ended ≡ old.ended
  pub input : new.input.items ≡ old.input.items
  pub output : new.output.items ≡ drop count old.output.items

-- this range is to be sent next, once the output is: it is the first of the pieces that are left, and isn't empty
abbrev pub IsNextRange : Machine → OpenRange → Type 0
IsNextRange m extent =
    (m.state ≡ Open) × (m.phase ≡ Responding) × (after : List Piece) × (m.left.items ≡ Range extent ∷ after)
    × (0 < extent.len)

-- no range is to be sent next
abbrev pub HasNoRange : Machine → Type 0
HasNoRange m = (extent : OpenRange) → ¬ (IsNextRange m extent)

-- So many bytes of the range that is next were sent, where no others wait, it is so long, and they end below
-- 2^64.
abbrev pub HandsOutRange : Machine → Machine → ℕ → Type 0
HandsOutRange old new count =
    (extent : OpenRange) → IsNextRange old extent → old.output.items ≡ [] → 0 < count → CanShorten old.left.items count
    → (new ≡ record old { left = new.left }) × Shortens old.left.items new.left.items count

-- these bytes were read, or the end of the input was found
pub record TakesIn (old new : Machine) (bytes : List ℕ) : Type 0 where
  pub rest : KeepsState old new
  pub output : new.output.items ≡ old.output.items
  pub input : new.input.items ≡ old.input.items ++ bytes
  pub ended : ((old.ended ≡ false) × (new.ended ≡ (length bytes == 0))) ⊎ ((new.ended ≡ old.ended) × (bytes ≡ []))

-- the request was received whole, and its content was put into it
pub record Asks (old new : Machine) : Type 0 where
  pub same : new ≡ record old { phase = Asking; body = new.body; request = new.request }
  pub request : new.request ≡ with_body old.request old.body.items

-- the connection gave up
pub record GivesUp (old new : Machine) : Type 0 where
  pub keeps : Keeps old new
  pub aborted : HasAborted new
  pub reaches : (p : Past) → MayAbort (core old p) → Holds (core new p)

-- what was received and isn't used was dropped
pub record Empties (old new : Machine) : Type 0 where
  pub rest : KeepsState old new
  pub ended : new.ended ≡ old.ended
  pub output : new.output.items ≡ old.output.items
  pub input : new.input.items ≡ []

-- What was received of a content that was rejected for its length was dropped, and then these bytes were received.
pub record DropsContent (old new : Machine) (bytes : List ℕ) : Type 0 where
  pub state : old.state ≡ Closing (Refused BodyTooLarge)
  pub phase : old.phase ≡ Receiving
  pub between : Machine
  pub empties : Empties old between
  pub takes : TakesIn between new bytes

-- so it is, or nothing was received and dropped
abbrev pub Drops : Machine → Machine → List ℕ → Type 0
Drops old new bytes = ((new ≡ old) × (bytes ≡ [])) ⊎ DropsContent old new bytes

-- The connection offers these bytes next: the first of those that wait to be written; or, if none wait, bytes that
-- what is open gives where the range that is next begins.
abbrev pub Offers : Gives → Machine → List ℕ → Type 0
Offers gives m bytes =
    ((more : List ℕ) × (m.output.items ≡ bytes ++ more))
    ⊎ ((m.output.items ≡ []) × (extent : OpenRange) × IsNextRange m extent × (length bytes ≤ extent.len)
    × gives extent.start bytes)

-- it offers so many bytes
abbrev pub OffersCount : Machine → ℕ → Type 0
OffersCount m count =
    (count ≤ length m.output.items)
    ⊎ ((m.output.items ≡ []) × (extent : OpenRange) × IsNextRange m extent × (count ≤ extent.len))

-- no step is left: while a response is sent, something is offered
abbrev pub HasStopped : Machine → Type 0
HasStopped m =
    m.state ≡ Open → m.phase ≡ Responding → m.output.items ≡ [] → (extent : OpenRange) × IsNextRange m extent

-- the pieces and the end of a response that is being sent
abbrev pub sends_left : Phase → State → ℕ → ℕ
sends_left Responding Open pieces = 1 + pieces
sends_left phase state pieces = 0

-- how much the connection has to do without its host: less after each step
abbrev pub work : Machine → ℕ
work m = length m.input.items + sends_left m.phase m.state (length m.left.items)

-- the past after these bytes were received and written
abbrev pub past_after : Past → List ℕ → List ℕ → List Call → Past
past_after p received sent calls = record {
  received = p.received ++ received;
  sent = p.sent ++ sent;
  calls = calls;
}

-- A call leads from one state of the connection and the application to another. These bytes were received in it, and
-- these were written.
pub record Moves {H : Type 0} (plans : Plans H) (gives : H → Gives) (old : Machine) (before : H)
    (received sent : List ℕ) (new : Machine) (now : H) : Type 0 where
  pub config : new.config ≡ old.config
  pub runs : (first : H) (p : Past) → Runs plans gives first old before p
      → (calls : List Call) × Runs plans gives first new now (past_after p received sent calls)
