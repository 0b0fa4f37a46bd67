-- The bytes of whole exchanges, literally.
use Rattle.std.specs.Prelude.{◌≡◌, ℕ, Bool, List, [], ◌∷◌, ◌++◌, if◌then◌else◌}
use Rattle.http1.specs.{declared.{conn.Limits.Limits, server.Server.Server}, Framing.method_kind, Server.is_head}
use Rattle.http_server.specs.declared.state.{Config.Config, State.{State, TheVariants.{Open, Closing, Upgraded}}}
use Rattle.http_server.specs.declared.state.{State.TheVariants.Aborted, Reason.TheVariants.{Asked, EndOfInput, Refused}}
use Rattle.http_server.specs.{Encoding.answering, Exchange.{Call, Exchanges, IsInterim}, Refusal.refusal_text}
use Rattle.server_connection.specs.{declared.plan.ResponsePlan.ResponsePlan, Encoding.Frames, Pieces.{AreSent, Gives}}
use Rattle.server_connection.specs.Plan.{HasHeadOf, Plans, sent_pieces}

-- The stream begins with the request of the call, and the text is all that was sent for it. Its response carries out a
-- plan of the application, and is literally these bytes: the head that `http1` writes for the plan, with what goes
-- before the content; the bytes of the plan's pieces, or none to HEAD; and what goes after the content.
pub record SendsCall {H : Type 0} (plans : Plans H) (gives : H → Gives) (config : Config) (before now : H)
    (stream : List ℕ) (c : Call) (text rest : List ℕ) : Type 0 where
  pub stays : Bool
  pub exchange : Exchanges config stays stream c text rest
  pub plan : ResponsePlan
  pub planned : plans before c.0 plan now
  pub has_head : HasHeadOf plan c.1
  pub bodiless : Bool
  pub kind : bodiless ≡ is_head (method_kind exchange.message.head.method)
  pub server : Server
  pub head : List ℕ
  pub tail : List ℕ
  pub frames : Frames bodiless plan
      (answering config.limits exchange.message.head exchange.request.reads.framing) [] [] server head tail
  pub content : List ℕ
  pub is_content : AreSent (gives now) (sent_pieces bodiless plan) content
  pub body : content ≡ (if bodiless then [] else c.1.body.items)
  pub literal : exchange.answer ≡ head ++ (content ++ tail)

-- The stream is the requests of the calls and then rest, and the text is literally what was sent for them, in order.
-- The plans lead from one state of the application to the other.
abbrev pub SendsCalls : {H : Type 0} → Plans H → (H → Gives) → Config → H → H → List ℕ → List Call → List ℕ → List ℕ
    → Type 0
SendsCalls plans gives config before now stream [] text rest = (now ≡ before) × (stream ≡ rest) × (text ≡ [])
SendsCalls {H} plans gives config before now stream (c ∷ calls) text rest =
    (next : H) × (first : List ℕ) × (after : List ℕ) × (later : List ℕ) × (text ≡ first ++ later)
    × SendsCall plans gives config before next stream c first after
    × SendsCalls plans gives config next now after calls later rest

-- What is sent after the responses to the calls, by the state of the connection. While it is open, and if it was cut
-- off, that is at most the interim response to the next request. If the next request was rejected, it is the response
-- that says why, after that interim response if there is one. Otherwise it is nothing.
abbrev pub IsLater : Limits → State → List ℕ → List ℕ → Type 0
IsLater limits Open rest later = IsInterim limits rest later
IsLater limits (Closing Asked) rest later = later ≡ []
IsLater limits (Closing EndOfInput) rest later = later ≡ []
IsLater limits (Closing (Refused why)) rest later =
    (interim : List ℕ) × IsInterim limits rest interim × (later ≡ interim ++ refusal_text why)
IsLater limits Upgraded rest later = ⊥
IsLater limits Aborted rest later = IsInterim limits rest later

-- The output is literally what was sent for the calls, and then what is sent after it in this state.
pub record IsLiteral {H : Type 0} (plans : Plans H) (gives : H → Gives) (config : Config) (first now : H)
    (state : State) (received : List ℕ) (calls : List Call) (output : List ℕ) : Type 0 where
  pub text : List ℕ
  pub rest : List ℕ
  pub sends : SendsCalls plans gives config first now received calls text rest
  pub later : List ℕ
  pub is_later : IsLater config.limits state rest later
  pub out : output ≡ text ++ later
