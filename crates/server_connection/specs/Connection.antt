-- What is written over a connection, and what it wants of its host.
use Rattle.std.specs.{Prelude.{◌≡◌, ◌≢◌, ℕ, ◌⊎◌, Bool, true, false, List, [], ◌++◌, Option, ⊤}, Io.KnownBytes.Appends}
use Rattle.{std.specs.Io.KnownBytes.{Consumes, IsAtEnd}, http_server.specs.declared.state.{Config.Config, State.State}}
use Rattle.http_server.specs.{declared.state.State.TheVariants.{Open, Closing, Upgraded, Aborted}, Exchange.Chain}
use Rattle.{http_server.specs.History.{History, IsServed, Rests}, server_connection.specs.Literal.IsLiteral}
use Rattle.server_connection.specs.{Literal.SendsCalls, declared.connection.Event.Event}
use Rattle.server_connection.specs.declared.connection.Event.TheVariants as Says
use Rattle.server_connection.specs.declared.machine.{Machine.Machine, Phase.TheVariants.{Receiving, Asking}}
use Rattle.server_connection.specs.{declared.piece.OpenRange.OpenRange, Machine.{IsNextRange, Moves, Past, Runs, Sends}}
use Rattle.server_connection.specs.{Machine.{history_of, new_past}, Pieces.Gives, Plan.{Answers, Plans}}

-- the connection ended as HTTP has it
abbrev pub IsClosing : State → Type 0
IsClosing Open = ⊥
IsClosing (Closing why) = ⊤
IsClosing Upgraded = ⊥
IsClosing Aborted = ⊥

-- What is true at the end. Where it ended without an error, all that `http_server` says of a connection that ended is
-- true, and all of the output was sent: each request that was received has its response, or is the one that ended the
-- connection. Where it ended with one, the same is true of what was sent, but it may be a part; or the response to the
-- next request was being sent, and its front was.
abbrev pub HasEnded : {H : Type 0} → Plans H → (H → Gives) → Config → H → H → History → Bool → Type 0
HasEnded plans gives config last now h true =
    IsServed config h × IsClosing h.state × (h.pending ≡ []) × (last ≡ now)
HasEnded plans gives config last now h false = IsServed config h ⊎ Sends plans gives last now config h

-- All bytes that were sent are known literally. For each request, in order, they are the interim response if one was
-- sent, the head that `http1` writes for the application's plan, the content and what ends it. After them follows
-- nothing, or the response that says why the next request was rejected. Where the connection ended with an error, the
-- last of these bytes may not have been sent; or the response to the next request was being sent after them, and its
-- front was.
abbrev pub IsSentLiterally : {H : Type 0} → Plans H → (H → Gives) → Config → H → H → H → History → Bool → Type 0
IsSentLiterally plans gives config first last now h true =
    IsLiteral plans gives config first last h.state h.received h.calls h.sent
IsSentLiterally plans gives config first last now h false =
    ((lost : List ℕ) × IsLiteral plans gives config first last h.state h.received h.calls (h.sent ++ lost))
    ⊎ ((x : Sends plans gives last now config h)
    × SendsCalls plans gives config first last h.received h.calls x.text x.rest)

-- Of the bytes that were received these were sent. Each response that was sent whole carries out a plan of the
-- application for its request.
pub record Exchanged {H : Type 0} (plans : Plans H) (gives : H → Gives) (config : Config) (first now : H)
    (received sent : List ℕ) (is_whole : Bool) : Type 0 where
  pub history : History
  pub is_received : history.received ≡ received
  pub is_sent : history.sent ≡ sent
  pub last : H
  pub answered : Chain (Answers plans gives) first history.calls last
  pub ended : HasEnded plans gives config last now history is_whole
  pub literal : IsSentLiterally plans gives config first last now history is_whole

-- what each event says of the connection: at most one is true of it
abbrev pub IsSaid : Machine → Event → Type 0
IsSaid m Says.NeedsInput = (m.state ≡ Open) × (m.phase ≡ Receiving) × (m.output.items ≡ [])
IsSaid m Says.Request = (m.state ≡ Open) × (m.phase ≡ Asking)
IsSaid m Says.Output =
    (¬ ((m.state ≡ Open) × (m.phase ≡ Asking)))
    × ((m.output.items ≢ []) ⊎ ((m.output.items ≡ []) × (extent : OpenRange) × IsNextRange m extent))
IsSaid m (Says.Closed why) = (m.state ≡ Closing why) × (m.output.items ≡ [])
IsSaid m Says.Aborted = (m.state ≢ Open) × (¬ (IsClosing m.state)) × (m.output.items ≡ [])

-- A history of calls on a connection that began in a state of the application. It led to this one, these bytes were
-- received in it, and these were written.
pub data IsReached {H : Type 0} (plans : Plans H) (gives : H → Gives) (config : Config) (first : H)
    : Machine → H → List ℕ → List ℕ → Type 0 where
  begun : (m : Machine) → m.config ≡ config → Runs plans gives first m first new_past →
      IsReached plans gives config first m first [] []
  moved : (old new : Machine) (before now : H) (received sent more_received more_sent : List ℕ) →
      IsReached plans gives config first old before received sent →
      Moves plans gives old before more_received more_sent new now →
      IsReached plans gives config first new now (received ++ more_received) (sent ++ more_sent)

-- After those bytes the connection needs input: the input goes on, each whole request that was received is answered,
-- and the request after those was invited to go on if it waits for `100 Continue`. Nothing waits to be written.
pub record HasRested {H : Type 0} (plans : Plans H) (gives : H → Gives) (first : H) (m : Machine) (now : H)
    (received sent : List ℕ) : Type 0 where
  pub past : Past
  pub is_received : past.received ≡ received
  pub is_sent : past.sent ≡ sent
  pub runs : Runs plans gives first m now past
  pub rests : Rests m.config (history_of m past)
  pub empty : m.output.items ≡ []

-- the connection closes as HTTP has it, and all of its output is written
abbrev pub HasWritten : Machine → Type 0
HasWritten m = IsClosing m.state × (m.output.items ≡ [])

-- A connection over a reader and a writer, once these bytes were read and these were written. It reads only where it
-- rests, or, to drop the rest of a content that it rejected, where it has written all.
pub data IsTurned {H : Type 0} (plans : Plans H) (gives : H → Gives) (config : Config) (first : H)
    : Machine → H → List ℕ → List ℕ → Type 0 where
  by_none : (m : Machine) → IsReached plans gives config first m first [] [] →
      IsTurned plans gives config first m first [] []
  by_write : (old new : Machine) (before now : H) (received sent more : List ℕ) →
      IsTurned plans gives config first old before received sent → Moves plans gives old before [] more new now →
      IsTurned plans gives config first new now received (sent ++ more)
  by_read : (old new : Machine) (now : H) (received sent more : List ℕ) →
      IsTurned plans gives config first old now received sent →
      HasRested plans gives first old now received sent ⊎ HasWritten old →
      Moves plans gives old now more [] new now → IsTurned plans gives config first new now (received ++ more) sent

-- so it is, and its input counts as ended only if no byte of it is left
pub record HasTurned {H : Type 0} (plans : Plans H) (gives : H → Gives) (config : Config) (first : H) (m : Machine)
    (now : H) (received sent : List ℕ) (left : Option (List ℕ)) : Type 0 where
  pub turned : IsTurned plans gives config first m now received sent
  pub ends : m.ended ≡ true → IsAtEnd left

abbrev pub WaitsAtRest : {H : Type 0} → Plans H → (H → Gives) → Config → H → H → List ℕ → List ℕ → Option (List ℕ)
    → Type 0
WaitsAtRest plans gives config first now received sent left =
    (m : Machine) × HasTurned plans gives config first m now received sent left

-- a turn of the loop over a reader and a writer, in which these bytes are read and these are written
pub record Turns {H : Type 0} (plans : Plans H) (gives : H → Gives) (remaining left contents grown : Option (List ℕ))
    (old : Machine) (before : H) (new : Machine) (now : H) : Type 0 where
  pub received : List ℕ
  pub sent : List ℕ
  pub consumes : Consumes remaining left received
  pub appends : Appends contents grown sent
  pub goes : (config : Config) (first : H) (r s : List ℕ)
      → HasTurned plans gives config first old before r s remaining
      → HasTurned plans gives config first new now (r ++ received) (s ++ sent) left
