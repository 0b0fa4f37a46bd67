-- What each call does.
use Rattle.std.specs.Prelude.{◌≡◌, ◌≢◌, ⊤, ℕ, ◌<◌, ◌⊎◌, true, false, ◌&&◌, List, [], ◌++◌, length, drop, map, Option}
use Rattle.std.specs.Prelude.{Some, None, IsTrue, IsFalse, ◌==◌}
use Rattle.httparse.specs.Grammar.{Field, HasNoResponse, MayBecomeResponse, ResponseHead, status_code}
use Rattle.{httparse.specs.Spans.name_and_value, http.specs.Method.{idempotent_methods, is_among}}
use Rattle.{http_header.specs.{FieldValue.FieldValue, HeaderMap.Entries}, http1.specs.Body.{Body, body_of}}
use Rattle.http1.specs.{Decoder.{Completes, Continues, Starves}, Fields.Header, Client.{ClientRefuses, after_end}}
use Rattle.http1.specs.Client.{after_head, after_request, cycle, is_expected, is_interim, new_client, planned_request}
use Rattle.http1.specs.{Client.{request_refusal, switches, with_writing}, Conn.{after_data, awaits_head, data_refusal}}
use Rattle.http1.specs.{Conn.{data_text, finish_refusal, finish_text}, Message.AcceptsResponse}
use Rattle.http1.specs.declared.{client.Client.Client, conn.{BodySize.BodySize, Limits.Limits, Reading.Reading}}
use Rattle.http1.specs.declared.{decode.Decoder.{Decoder, TheVariants.UntilClose}, error.ReadError.ReadError}
use Rattle.http1.specs.declared.{error.WriteError.WriteError, framing.Framing.Framing}
use Rattle.gateway_connection.specs.{Content.{HasNoMap, map_of}, Responses.response_of}
use Rattle.gateway_connection.specs.declared.event.{OriginEvent.OriginEvent, OriginFault.OriginFault}
use Rattle.gateway_connection.specs.declared.{event.OriginResponse.OriginResponse, head.TheConstants.MAX_FIELDS}
use Rattle.gateway_connection.specs.declared.origin.OriginConnection.{OriginConnection}
use Rattle.http1.specs.declared.conn.Reading.TheVariants as Reads
use Rattle.http1.specs.declared.conn.Writing.TheVariants as Writes
use Rattle.http1.specs.declared.error.WriteError.TheVariants as Write
use Rattle.gateway_connection.specs.declared.event.OriginEvent.TheVariants as Is
use Rattle.gateway_connection.specs.declared.event.OriginFault.TheVariants as Faults

pub record IsNew (limits : Limits) (m : OriginConnection) : Type 0 where
  pub client : m.client ≡ new_client limits
  pub input : m.input.items ≡ []
  pub output : m.output.items ≡ []
  pub ended : m.ended ≡ false
  pub answered : m.answered ≡ false
  pub fault : m.fault ≡ None

-- ---- requests

-- No request is outstanding and both sides keep the connection, since `http1` would send another request. All was
-- written, and no byte came that isn't of a response.
pub record IsFit (m : OriginConnection) : Type 0 where
  pub idle : m.client.writing ≡ Writes.Head
  pub input : m.input.items ≡ []
  pub output : m.output.items ≡ []
  pub going : m.ended ≡ false
  pub whole : m.fault ≡ None

-- nothing is put
pub record PutsNothing (old new : OriginConnection) : Type 0 where
  pub rest : new ≡ record old { output = new.output }
  pub output : new.output.items ≡ old.output.items

-- the head that `http1` writes is put
pub record Begins (old : OriginConnection) (method target : List ℕ) (headers : List Header) (size : BodySize)
    (new : OriginConnection) : Type 0 where
  pub fit : IsFit old
  pub accepted : request_refusal old.client method target size headers ≡ None
  pub output : new.output.items ≡ old.output.items ++ planned_request old.client method target size headers
  pub client : new.client ≡ after_request old.client method size headers
  pub idempotent : new.idempotent ≡ is_among idempotent_methods method
  pub rest : new ≡ record old {
    client = new.client;
    output = new.output;
    silent = true;
    untouched = true;
    idempotent = new.idempotent;
  }

abbrev pub RefusesRequest : OriginConnection → List ℕ → List ℕ → List Header → BodySize → WriteError → OriginConnection
    → Type 0
RefusesRequest old method target headers size error new =
    PutsNothing old new
    × ((error ≡ Write.OutOfMemory) ⊎ ((¬ (IsFit old)) × (error ≡ Write.State))
    ⊎ (request_refusal old.client method target size headers ≡ Some error))

-- these bytes are put, and the client has written them
pub record PutsText (old : OriginConnection) (text : List ℕ) (next : Client) (new : OriginConnection) : Type 0 where
  pub output : new.output.items ≡ old.output.items ++ text
  pub client : new.client ≡ next
  pub rest : new ≡ record old { client = new.client; output = new.output }

-- a piece of content is put in its frame
abbrev pub Puts : OriginConnection → List ℕ → OriginConnection → Type 0
Puts old piece new =
    (old.fault ≡ None) × (data_refusal old.client.writing (length piece) ≡ None)
    × PutsText old (data_text old.client.writing piece)
    (with_writing old.client (after_data old.client.writing (length piece))) new

-- what ends the content is put
abbrev pub Ends : OriginConnection → List Header → OriginConnection → Type 0
Ends old trailers new =
    (old.fault ≡ None) × (finish_refusal old.client.writing trailers ≡ None)
    × PutsText old (finish_text old.client.writing trailers) (after_end old.client) new

abbrev pub RefusesWrite : Option WriteError → OriginConnection → WriteError → OriginConnection → Type 0
RefusesWrite refusal old error new =
    PutsNothing old new
    × ((error ≡ Write.OutOfMemory) ⊎ ((old.fault ≢ None) × (error ≡ Write.State)) ⊎ (refusal ≡ Some error))

-- so many bytes of the output were written
pub record HandsOut (old : OriginConnection) (count : ℕ) (new : OriginConnection) : Type 0 where
  pub output : new.output.items ≡ drop count old.output.items
  pub rest : new ≡ record old { output = new.output; untouched = old.untouched && (count == 0) }

-- ---- input

pub record Receives (old : OriginConnection) (bytes : List ℕ) (new : OriginConnection) : Type 0 where
  pub input : new.input.items ≡ old.input.items ++ bytes
  pub rest : new ≡ record old { input = new.input }

abbrev pub Finishes : OriginConnection → OriginConnection → Type 0
Finishes old new = new ≡ record old { ended = true }

-- ---- responses

-- a request was sent, and the head of a response to it is due
abbrev pub IsDue : Client → Type 0
IsDue c = (c.reading ≡ Reads.Head) × (awaits_head c.writing ≡ false)

-- no response follows
abbrev pub IsOver : Reading → Type 0
IsOver Reads.Done = ⊤
IsOver Reads.Upgraded = ⊤
IsOver Reads.Closed = ⊤
IsOver reading = ⊥

-- the input begins with the head of a response, with these parts
pub record TakesResponse (old : OriginConnection) (response : OriginResponse) (new : OriginConnection) : Type 0 where
  pub due : IsDue old.client
  pub head : ResponseHead
  pub framing : Framing
  pub accepts : AcceptsResponse old.client.limits old.client.method old.input.items head framing new.input.items
  pub expected : IsTrue (is_expected old.client (status_code head))
  pub parts : response ≡ response_of head
  pub client : new.client ≡ after_head old.client head framing
  pub rest : new ≡ record old { client = new.client; input = new.input; silent = false }

-- content goes on with this piece
pub record TakesPiece (old : OriginConnection) (piece : List ℕ) (new : OriginConnection) : Type 0 where
  pub decoder : Decoder
  pub next : Decoder
  pub len : ℕ
  pub reading : old.client.reading ≡ Reads.Body decoder
  pub continues : Continues decoder old.input.items next len piece
  pub some : 0 < length piece
  pub input : new.input.items ≡ drop len old.input.items
  pub client : new.client ≡ record old.client { reading = Reads.Body next }
  pub rest : new ≡ record old { client = new.client; input = new.input }

-- content ends, with these trailer fields
pub record TakesEnd (old : OriginConnection) (trailers : Entries FieldValue) (new : OriginConnection) : Type 0 where
  pub decoder : Decoder
  pub fields : List Field
  pub reading : old.client.reading ≡ Reads.Body decoder
  pub completes : (more : List ℕ)
      → Completes decoder (old.input.items ++ more) (body_of [] fields) (new.input.items ++ more)
  pub parts : trailers ≡ map_of (map name_and_value fields)
  pub client : new.client ≡ cycle (record old.client { reading = Reads.Done })
  pub rest : new ≡ record old { client = new.client; input = new.input; answered = true }

-- what was received ends with a first part of a head, or is used but for a first part of a trailer section
abbrev pub WaitsAt : Reading → Client → List ℕ → Client → List ℕ → Type 0
WaitsAt Reads.Head c input next rest =
    (next ≡ c) × (rest ≡ input)
    × (((awaits_head c.writing ≡ true) × (input ≡ []))
    ⊎ ((awaits_head c.writing ≡ false) × HasNoResponse input × MayBecomeResponse input))
WaitsAt (Reads.Body d) c input next rest =
    (after : Decoder) × (len : ℕ) × Starves d input after len × (rest ≡ drop len input)
    × (next ≡ record c { reading = Reads.Body after })
WaitsAt reading c input next rest = ⊥

-- nothing more can be said of what was received
pub record Waits (old new : OriginConnection) : Type 0 where
  pub rest : new ≡ record old { client = new.client; input = new.input }
  pub found : WaitsAt old.client.reading old.client old.input.items new.client new.input.items

-- only the end of the input ends the content
pub record EndsContent (old : OriginConnection) (trailers : Entries FieldValue) (new : OriginConnection) : Type 0 where
  pub reading : old.client.reading ≡ Reads.Body UntilClose
  pub writing : new.client.writing ≡ Writes.Closed
  pub over : new.client.reading ≡ Reads.Closed
  pub limits : new.client.limits ≡ old.client.limits
  pub parts : trailers ≡ []
  pub rest : new ≡ record old { client = new.client; answered = true }

-- what the end of the input is, where nothing more can be said of what was received before it
abbrev pub FindsEnd : OriginConnection → OriginEvent → OriginConnection → Type 0
FindsEnd old (Is.End trailers) new = EndsContent old trailers new
FindsEnd old Is.Closed new = (new ≡ old) × ((old.client.writing ≡ Writes.Head) ⊎ IsOver old.client.reading)
FindsEnd old event new = ⊥

-- this follows the end of the input
abbrev pub AtEnd : OriginConnection → (OriginConnection → Type 0) → Type 0
AtEnd old P = (old.ended ≡ true) × (between : OriginConnection) × Waits old between × P between

-- what comes next
abbrev pub Finds : OriginConnection → OriginEvent → OriginConnection → Type 0
Finds old Is.NeedsInput new = (old.ended ≡ false) × Waits old new
Finds old (Is.Interim response) new = IsTrue (is_interim response.status) × TakesResponse old response new
Finds old (Is.Head response) new =
    IsFalse (is_interim response.status) × (switches old.client response.status ≡ false)
    × TakesResponse old response new
Finds old (Is.Content piece) new = TakesPiece old piece new
Finds old (Is.End trailers) new = TakesEnd old trailers new ⊎ AtEnd old (λ between. EndsContent between trailers new)
Finds old (Is.Switched response) new =
    IsFalse (is_interim response.status) × (switches old.client response.status ≡ true) × TakesResponse old response new
Finds old Is.Closed new =
    (IsOver old.client.reading × (new ≡ old)) ⊎ AtEnd old (λ between. FindsEnd between Is.Closed new)
Finds old (Is.Broken fault) new = ⊥

-- ---- faults

-- the input ended before any byte of a response, on a connection that has answered before
abbrev pub IsUnanswered : OriginConnection → Type 0
IsUnanswered m = (m.answered ≡ true) × (m.silent ≡ true) × (m.input.items ≡ [])

-- what the end of the input breaks off
pub record CutsOff (old : OriginConnection) (fault : OriginFault) (new : OriginConnection) : Type 0 where
  pub outstanding : old.client.writing ≢ Writes.Head
  pub until : old.client.reading ≢ Reads.Body UntilClose
  pub because : (IsUnanswered old × (fault ≡ Faults.Unanswered))
      ⊎ ((¬ (IsUnanswered old)) × ((fault ≡ Faults.CutShort)))
  pub rest : new ≡ record old { client = new.client }

-- the head or the trailer section at the front has fields that no map takes
abbrev pub HasInvalidFields : Client → List ℕ → Type 0
HasInvalidFields c input =
    ((head : ResponseHead) × (framing : Framing) × (rest : List ℕ)
    × AcceptsResponse c.limits c.method input head framing rest × HasNoMap (map name_and_value head.fields))
    ⊎ ((d : Decoder) × (body : Body) × (rest : List ℕ) × (c.reading ≡ Reads.Body d)
    × Completes d input body rest × HasNoMap (map name_and_value body.trailers))

-- what is wrong with what was received, whatever bytes follow
abbrev pub IsFault : OriginConnection → OriginFault → Type 0
IsFault m Faults.Unasked =
    (m.client.writing ≡ Writes.Head) × (error : ReadError) × ClientRefuses m.client m.input.items MAX_FIELDS error
IsFault m (Faults.Malformed error) =
    (m.client.writing ≢ Writes.Head) × ClientRefuses m.client m.input.items MAX_FIELDS error
IsFault m Faults.InvalidFields = HasInvalidFields m.client m.input.items
IsFault m Faults.OutOfMemory = ⊤
IsFault m fault = ⊥

pub record Breaks (old : OriginConnection) (fault : OriginFault) (new : OriginConnection) : Type 0 where
  pub because : IsFault old fault
  pub rest : new ≡ record old { client = new.client; input = new.input }

abbrev pub Fails : OriginConnection → OriginFault → OriginConnection → Type 0
Fails old fault new = Breaks old fault new ⊎ AtEnd old (λ between. CutsOff between fault new)

-- after a fault, nothing else is said
abbrev pub SaysAt : Option OriginFault → OriginConnection → OriginEvent → OriginConnection → Type 0
SaysAt (Some fault) old event new = (event ≡ Is.Broken fault) × (new ≡ old)
SaysAt None old event new =
    Finds old event new
    ⊎ ((fault : OriginFault) × (between : OriginConnection) × Fails old fault between
    × (event ≡ Is.Broken fault) × (new ≡ record between { fault = Some fault }))

abbrev pub Says : OriginConnection → OriginEvent → OriginConnection → Type 0
Says old event new = SaysAt old.fault old event new

-- The request may be sent again on a new connection by itself: this connection, which has answered before, ended before
-- any byte of a response, and the method is idempotent or nothing of the request was written.
abbrev pub MayRepeat : OriginConnection → Type 0
MayRepeat m =
    (m.fault ≡ Some Faults.Unanswered) × ((m.idempotent ≡ true) ⊎ (m.untouched ≡ true))
