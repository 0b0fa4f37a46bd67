-- What each call does.
use Rattle.std.specs.Prelude.{◌≡◌, ◌≢◌, ⊤, ℕ, ◌<◌, ◌⊎◌, true, false, List, [], ◌++◌, length, drop, map, Option, Some}
use Rattle.{std.specs.Prelude.None, httparse.specs.Grammar.{Field, HasNoRequest, MayBecomeRequest}}
use Rattle.{httparse.specs.Spans.name_and_value, http_header.specs.{FieldValue.FieldValue, HeaderMap.Entries}}
use Rattle.http1.specs.{Body.{Body, body_of}, Decoder.{Completes, Continues, Starves, decoder_for}, Fields.Header}
use Rattle.http1.specs.{Conn.{after_data, data_refusal, data_text, finish_refusal, finish_text}, Head.response_text}
use Rattle.http1.specs.{Message.AcceptsRequest, Server.{ServerRefuses, after_end, after_informational, after_piece}}
use Rattle.http1.specs.Server.{after_response, closed_server, failed_server, informational_refusal, new_server}
use Rattle.http1.specs.Server.{peer_minor, planned_response, request_of, response_refusal, upgrade_refusal}
use Rattle.http1.specs.{Server.{upgraded_server, with_writing}, declared.{server.Server.Server, conn.BodySize.BodySize}}
use Rattle.http1.specs.declared.{conn.{Limits.Limits, Reading.Reading}, decode.Decoder.Decoder}
use Rattle.http1.specs.declared.error.{ReadError.{ReadError, TheVariants.UnexpectedEof}, WriteError.WriteError}
use Rattle.{http1.specs.declared.framing.Framing.Framing, gateway_connection.specs.Content.{HasNoMap, map_of}}
use Rattle.{gateway_connection.specs.declared.head.TheConstants.MAX_FIELDS, server_stream.specs.Heads.told_of}
use Rattle.server_stream.specs.declared.connection.StreamConnection.{StreamConnection}
use Rattle.server_stream.specs.declared.event.{StreamRequest.StreamRequest, StreamEvent.StreamEvent}
use Rattle.server_stream.specs.declared.rejection.StreamRejection.{StreamRejection}
use Rattle.httparse.specs.Grammar as Grammar
use Rattle.http1.specs.declared.conn.Reading.TheVariants as Reads
use Rattle.http1.specs.declared.conn.Writing.TheVariants as Writes
use Rattle.http1.specs.declared.error.WriteError.TheVariants as Write
use Rattle.server_stream.specs.declared.event.StreamEvent.TheVariants as Is
use Rattle.server_stream.specs.declared.rejection.StreamRejection.TheVariants as Because

pub record IsNew (limits : Limits) (m : StreamConnection) : Type 0 where
  pub server : m.server ≡ new_server limits
  pub input : m.input.items ≡ []
  pub output : m.output.items ≡ []
  pub ended : m.ended ≡ false
  pub fault : m.fault ≡ None

-- ---- responses

-- nothing is put
pub record PutsNothing (old new : StreamConnection) : Type 0 where
  pub rest : new ≡ record old { output = new.output }
  pub output : new.output.items ≡ old.output.items

-- these bytes are put, and the server has written them
pub record PutsText (old : StreamConnection) (text : List ℕ) (next : Server) (new : StreamConnection) : Type 0 where
  pub output : new.output.items ≡ old.output.items ++ text
  pub server : new.server ≡ next
  pub rest : new ≡ record old { server = new.server; output = new.output }

-- an interim response is put
abbrev pub Informs : StreamConnection → ℕ → List ℕ → List Header → StreamConnection → Type 0
Informs old status reason headers new =
    (informational_refusal old.server status reason headers ≡ None)
    × PutsText old (response_text 1 status reason headers) (after_informational old.server status) new

-- the head of a final response that `http1` writes is put
abbrev pub Responds : StreamConnection → ℕ → List ℕ → List Header → BodySize → StreamConnection → Type 0
Responds old status reason headers size new =
    (response_refusal old.server status reason size headers ≡ None)
    × PutsText old (planned_response old.server status reason size headers)
    (after_response old.server status size headers) new

-- the response that ends HTTP on the connection is put
abbrev pub Switches : StreamConnection → ℕ → List ℕ → List Header → StreamConnection → Type 0
Switches old status reason headers new =
    (upgrade_refusal old.server status reason headers ≡ None)
    × PutsText old (response_text (peer_minor old.server) status reason headers) (upgraded_server old.server) new

-- a piece of content is put in its frame
abbrev pub Puts : StreamConnection → List ℕ → StreamConnection → Type 0
Puts old piece new =
    (data_refusal old.server.writing (length piece) ≡ None)
    × PutsText old (data_text old.server.writing piece)
    (with_writing old.server (after_data old.server.writing (length piece))) new

-- what ends the content is put
abbrev pub Ends : StreamConnection → List Header → StreamConnection → Type 0
Ends old trailers new =
    (finish_refusal old.server.writing trailers ≡ None)
    × PutsText old (finish_text old.server.writing trailers) (after_end old.server) new

-- nothing is put: `http1` says why, or memory ran out
abbrev pub RefusesWrite : Option WriteError → StreamConnection → WriteError → StreamConnection → Type 0
RefusesWrite refusal old error new =
    PutsNothing old new × ((error ≡ Write.OutOfMemory) ⊎ (refusal ≡ Some error))

-- so many bytes of the output were written
pub record HandsOut (old : StreamConnection) (count : ℕ) (new : StreamConnection) : Type 0 where
  pub output : new.output.items ≡ drop count old.output.items
  pub rest : new ≡ record old { output = new.output }

-- more requests may follow the one now
abbrev pub GoesOn : StreamConnection → Type 0
GoesOn m = (m.fault ≡ None) × (m.server.writing ≢ Writes.Closed)

-- ---- input

pub record Receives (old : StreamConnection) (bytes : List ℕ) (new : StreamConnection) : Type 0 where
  pub input : new.input.items ≡ old.input.items ++ bytes
  pub rest : new ≡ record old { input = new.input }

abbrev pub Finishes : StreamConnection → StreamConnection → Type 0
Finishes old new = new ≡ record old { ended = true }

-- ---- requests

-- the server once it has read this head
abbrev pub after_head : Server → Grammar.RequestHead → Framing → Server
after_head s h framing =
    record s { reading = Reads.Body (decoder_for s.limits framing); request = request_of h framing }

-- the input begins with the head of a request, with these parts
pub record TakesHead (old : StreamConnection) (told : StreamRequest) (new : StreamConnection) : Type 0 where
  pub due : old.server.reading ≡ Reads.Head
  pub head : Grammar.RequestHead
  pub framing : Framing
  pub accepts : AcceptsRequest old.server.limits old.input.items head framing new.input.items
  pub plain : (request_of head framing).has_codings ≡ false
  pub parts : told ≡ told_of head framing
  pub server : new.server ≡ after_head old.server head framing
  pub rest : new ≡ record old { server = new.server; input = new.input }

-- content goes on with this piece
pub record TakesPiece (old : StreamConnection) (piece : List ℕ) (new : StreamConnection) : Type 0 where
  pub decoder : Decoder
  pub next : Decoder
  pub len : ℕ
  pub reading : old.server.reading ≡ Reads.Body decoder
  pub continues : Continues decoder old.input.items next len piece
  pub some : 0 < length piece
  pub input : new.input.items ≡ drop len old.input.items
  pub server : new.server ≡ after_piece old.server old.input.items (Reads.Body next)
  pub rest : new ≡ record old { server = new.server; input = new.input }

-- content ends, with these trailer fields
pub record TakesEnd (old : StreamConnection) (trailers : Entries FieldValue) (new : StreamConnection) : Type 0 where
  pub decoder : Decoder
  pub fields : List Field
  pub reading : old.server.reading ≡ Reads.Body decoder
  pub completes : (more : List ℕ)
      → Completes decoder (old.input.items ++ more) (body_of [] fields) (new.input.items ++ more)
  pub parts : trailers ≡ map_of (map name_and_value fields)
  pub server : new.server ≡ after_piece old.server old.input.items Reads.Done
  pub rest : new ≡ record old { server = new.server; input = new.input }

-- what was received is a first part of a head, or is used but for a first part of a trailer section
abbrev pub RunsOutAt : Reading → Server → List ℕ → Server → List ℕ → Type 0
RunsOutAt Reads.Head s input next rest =
    (next ≡ s) × (rest ≡ input) × HasNoRequest input × (length input < s.limits.max_head_len) × MayBecomeRequest input
RunsOutAt (Reads.Body d) s input next rest =
    (after : Decoder) × (len : ℕ) × Starves d input after len × (rest ≡ drop len input)
    × (next ≡ after_piece s input (Reads.Body after))
RunsOutAt reading s input next rest = ⊥

-- nothing more can be said of what was received
pub record RunsOut (old new : StreamConnection) : Type 0 where
  pub rest : new ≡ record old { server = new.server; input = new.input }
  pub found : RunsOutAt old.server.reading old.server old.input.items new.server new.input.items

-- this follows the end of the input
abbrev pub AtEnd : StreamConnection → (StreamConnection → Type 0) → Type 0
AtEnd old P = (old.ended ≡ true) × (between : StreamConnection) × RunsOut old between × P between

-- more is needed here, or the server has closed
abbrev pub IsStarved : Reading → Type 0
IsStarved Reads.Head = ⊤
IsStarved (Reads.Body d) = ⊤
IsStarved Reads.Closed = ⊤
IsStarved reading = ⊥

-- the input ends between two requests, or the server has closed
abbrev pub EndsBetween : StreamConnection → StreamConnection → Type 0
EndsBetween old new =
    ((old.server.reading ≡ Reads.Head) × (old.input.items ≡ [])
    × (new ≡ record old { server = closed_server old.server }))
    ⊎ ((old.server.reading ≡ Reads.Closed) × (new ≡ old))

-- what comes next
abbrev pub Finds : StreamConnection → StreamEvent → StreamConnection → Type 0
Finds old Is.NeedsInput new = (old.ended ≡ false) × RunsOut old new
Finds old (Is.Head told) new = TakesHead old told new
Finds old (Is.Content piece) new = TakesPiece old piece new
Finds old (Is.End trailers) new = TakesEnd old trailers new
Finds old Is.Waits new = (old.server.reading ≡ Reads.Done) × (new ≡ old)
Finds old Is.Switched new = (old.server.reading ≡ Reads.Upgraded) × (new ≡ old)
Finds old Is.Closed new =
    ((old.server.reading ≡ Reads.Closed) × (new ≡ old)) ⊎ AtEnd old (λ between. EndsBetween between new)
Finds old (Is.Rejected why) new = ⊥

-- ---- rejections

-- the head at the front has an unknown coding
abbrev pub HasUnknownCoding : Server → List ℕ → Type 0
HasUnknownCoding s input =
    (head : Grammar.RequestHead) × (framing : Framing) × (rest : List ℕ)
    × AcceptsRequest s.limits input head framing rest × ((request_of head framing).has_codings ≡ true)

-- the head or the trailer section at the front has fields that no map takes
abbrev pub HasInvalidFields : Server → List ℕ → Type 0
HasInvalidFields s input =
    ((head : Grammar.RequestHead) × (framing : Framing) × (rest : List ℕ)
    × AcceptsRequest s.limits input head framing rest × HasNoMap (map name_and_value head.fields))
    ⊎ ((d : Decoder) × (body : Body) × (rest : List ℕ) × (s.reading ≡ Reads.Body d)
    × Completes d input body rest × HasNoMap (map name_and_value body.trailers))

-- what is wrong with what was received, whatever bytes follow
abbrev pub IsWrong : StreamConnection → StreamRejection → Type 0
IsWrong m (Because.Malformed error) = ServerRefuses m.server m.input.items MAX_FIELDS error
IsWrong m Because.CutShort = ⊥
IsWrong m Because.UnknownCoding = (m.server.reading ≡ Reads.Head) × HasUnknownCoding m.server m.input.items
IsWrong m Because.InvalidFields = HasInvalidFields m.server m.input.items
IsWrong m Because.OutOfMemory = ⊤

-- within content, or at its end
abbrev pub IsOfContent : Reading → Type 0
IsOfContent (Reads.Body d) = ⊤
IsOfContent Reads.Done = ⊤
IsOfContent reading = ⊥

-- The server once what was read is rejected: it reads no further request. So a response that is still to begin says
-- that the connection closes, unless only the trailer fields or memory for a piece are the reason.
abbrev pub Fails : Server → List ℕ → Server → Type 0
Fails s input next =
    ((error : ReadError) × ServerRefuses s input MAX_FIELDS error × (next ≡ failed_server s error))
    ⊎ ((s.reading ≡ Reads.Head) × (head : Grammar.RequestHead) × (framing : Framing) × (rest : List ℕ)
    × AcceptsRequest s.limits input head framing rest
    × (next ≡ failed_server (after_head s head framing) UnexpectedEof))
    ⊎ ((d : Decoder) × (reading : Reading) × (s.reading ≡ Reads.Body d) × IsOfContent reading
    × (next ≡ after_piece s input reading))

pub record Breaks (old : StreamConnection) (why : StreamRejection) (new : StreamConnection) : Type 0 where
  pub because : IsWrong old why
  pub server : Fails old.server old.input.items new.server
  pub rest : new ≡ record old { server = new.server; input = new.input }

-- a request has begun
abbrev pub IsWithin : Reading → List ℕ → Type 0
IsWithin Reads.Head input = input ≢ []
IsWithin (Reads.Body d) input = ⊤
IsWithin reading input = ⊥

-- the input ends within a request
pub record CutsOff (old : StreamConnection) (new : StreamConnection) : Type 0 where
  pub within : IsWithin old.server.reading old.input.items
  pub rest : new ≡ record old { server = failed_server old.server UnexpectedEof }

abbrev pub Rejects : StreamConnection → StreamRejection → StreamConnection → Type 0
Rejects old why new =
    Breaks old why new ⊎ ((why ≡ Because.CutShort) × AtEnd old (λ between. CutsOff between new))

-- after a rejection, nothing else is said
abbrev pub SaysAt : Option StreamRejection → StreamConnection → StreamEvent → StreamConnection → Type 0
SaysAt (Some why) old event new = (event ≡ Is.Rejected why) × (new ≡ old)
SaysAt None old event new =
    Finds old event new
    ⊎ ((why : StreamRejection) × (between : StreamConnection) × Rejects old why between
    × (event ≡ Is.Rejected why) × (new ≡ record between { fault = Some why }))

abbrev pub Says : StreamConnection → StreamEvent → StreamConnection → Type 0
Says old event new = SaysAt old.fault old event new
