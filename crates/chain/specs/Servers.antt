-- The server of a resource, and what it says about a request (RFC 9110).
use Rattle.std.specs.Prelude.{◌≡◌, ◌≢◌, ℕ, Bool, true, false, List, [], ◌∷◌, All, Option, Some, codes}
use Rattle.{http_header.specs.Token.lowercase, headers.specs.{LineMap.{LineMap, fields_of, set, set_all}, Lines.Line}}
use Rattle.{chain.specs.Caches.{Reply, second_of, unless_head}, gateway_messages.specs.Forwarding.own_names}
use Rattle.gateway_messages.specs.{HopByHop.is_known, Spellings.has_mark, Framing.States}
use Rattle.gateway_messages.specs.declared.{framing.Framing.Framing, protocol.Protocol.TheVariants.Http11}
use Rattle.decide_preconditions.specs.{Plans.parts_sent, declared.part.Part.Part}
use Rattle.decide_resource.specs.{Answers.{FitsMemory, IsAnswer}, Requests.Request, declared.answer.Answer.Answer}
use Rattle.decide_resource.specs.declared.answer.Sends.{Sends}
use Rattle.decide_resource.specs.declared.answer.Sends.TheVariants as sends
use Rattle.decide_resource.specs.declared.resource.Resource.{Resource}

-- ---- what a server is

-- What goes out with a status: nothing of the resource; a list of the representations that there are; of the one at a
-- place, if there is one, these parts, or what the status says if there are none; or what comes of the method.
pub data Sent : Type 0 where
  Explanation : Sent
  Alternatives : Sent
  Representation : Option ℕ → List Part → Sent
  Outcome : Sent

-- what an answer sends
abbrev pub sent_of : Sends → Sent
sent_of sends.Nothing = Explanation
sent_of sends.Alternatives = Alternatives
sent_of (sends.Planned place plan) = Representation place (parts_sent plan)
sent_of sends.Perform = Outcome

-- A server of one target. At each time it has a resource, whose answers fit memory. The bytes that it sends are those
-- of that time, of the status and of what goes out; and the fields that it has before it sets those of the answer are
-- those of that time and of the status. It may be known that its fields frame each response (RFC 9112, section 6).
pub record Server : Type 0 where
  pub resource : ℕ → Resource
  pub fits : (time : ℕ) → FitsMemory (resource time)
  pub own : ℕ → ℕ → LineMap
  pub content : ℕ → ℕ → Sent → List ℕ
  pub frames : Bool

-- the server of each host, by the field lines of Host, and of each target
abbrev pub Site : Type 0
Site = List Line → List ℕ → Server

-- ---- what it says

-- The field is for all recipients, and neither a gateway nor a cache writes it. Its name has letters, digits and dashes
-- alone, and isn't Close, as the connection option (RFC 9112, section 12.1).
pub record IsCarried (name : List ℕ) : Type 0 where
  pub end_to_end : is_known true name ≡ false
  pub not_own : All (λ own. own ≢ name) own_names
  pub unmarked : has_mark name ≡ false
  pub not_age : name ≢ codes "age"
  pub not_close : lowercase name ≢ codes "close"

-- The reply is what the resource says about the request at that time: it has the status of the answer, the content that
-- goes with it, and each carried field as the server sends it.
pub record IsSaid (server : Server) (time : ℕ) (request : Request) (reply : Reply) : Type 0 where
  pub answer : Answer
  pub is : IsAnswer (second_of time) (server.resource time) request answer
  pub status : answer.status ≡ Some reply.status
  pub content : reply.content
      ≡ unless_head request.method (server.content time reply.status (sent_of answer.sends))
  pub fields : (name : List ℕ) → IsCarried name
      → reply.fields name ≡ set_all (server.own time reply.status) (fields_of answer.fields.items) name

-- ---- what it sends

-- the field lines of Connection in a response after which the connection is closed, or goes on (RFC 9112, section 9.6)
abbrev pub connection_lines : Bool → List Line
connection_lines true = codes "close" ∷ []
connection_lines false = []

-- Connection says that the connection is closed, or nothing
abbrev pub SaysCloseAtMost : LineMap → Type 0
SaysCloseAtMost fields = (closes : Bool) × (fields (codes "connection") ≡ connection_lines closes)

-- The server sends the reply now. Before it sets the fields of the answer, it writes Connection: that it closes the
-- connection, or nothing.
pub record IsSent (server : Server) (now : ℕ) (request : Request) (reply : Reply) : Type 0 where
  pub said : IsSaid server now request reply
  pub closes : Bool
  pub connection : reply.fields (codes "connection")
      ≡ set_all (set (server.own now reply.status) (codes "connection", connection_lines closes))
      (fields_of said.answer.fields.items) (codes "connection")
  pub framed : server.frames ≡ true → (framing : Framing) × States Http11 reply.fields framing
