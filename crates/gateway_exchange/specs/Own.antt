-- The gateway's own responses (RFC 9110, sections 15.5 and 15.6).
use Rattle.std.specs.Prelude.{◌⊎◌, ℕ, Bool, true, false, ◌||◌, List, [], ◌∷◌, ◌++◌, codes, if◌then◌else◌, Option}
use Rattle.{std.specs.Prelude.{Some, None}, headers.specs.Date.fixdate, http1.specs.Conn.finish_refusal}
use Rattle.http1.specs.{Fields.Header, Server.response_refusal, declared.conn.BodySize.{TheVariants.Known}}
use Rattle.{http1.specs.declared.error.WriteError.WriteError, http1_typed.specs.Parts.reason_of}
use Rattle.{gateway_messages.specs.Rejections.status_of, server_stream.specs.{Heads.rejection_status, Steps.Ends}}
use Rattle.server_stream.specs.{Steps.{RefusesWrite, Responds}, declared.connection.StreamConnection.StreamConnection}
use Rattle.gateway_exchange.specs.declared.{date.OwnDate.OwnDate, own.Own.Own}
use Rattle.gateway_connection.specs.declared.event.OriginFault.{OriginFault}
use Rattle.gateway_connection.specs.declared.event.OriginFault.TheVariants as Faults
use Rattle.http1.specs.declared.error.WriteError.TheVariants as Write
use Rattle.gateway_exchange.specs.declared.own.Own.TheVariants as Because

-- the status of a fault of the origin's connection, or of a write: memory ran out, or else it isn't the gateway's
abbrev pub origin_status : OriginFault → ℕ
origin_status Faults.OutOfMemory = 500
origin_status fault = 502

abbrev pub write_status : WriteError → ℕ
write_status Write.OutOfMemory = 500
write_status error = 502

abbrev pub own_status : Own → ℕ
own_status (Because.Unread why) = rejection_status why
own_status (Because.Rejected why) = status_of why
own_status Because.InvalidTarget = 400
own_status Because.Connect = 501
own_status Because.LengthRequired = 411
own_status Because.FinalRecipient = 200
own_status (Because.Chosen status) = status
own_status Because.LateRequest = 408
own_status Because.LateResponse = 504
own_status (Because.Unsent error) = write_status error
own_status (Because.Origin fault) = origin_status fault
own_status (Because.Response why) = 502
own_status (Because.Unsendable error) = write_status error
own_status Because.OutOfMemory = 500

-- the client's connection closes after it: the request is at fault or came late, or memory ran out
abbrev pub own_closes : Own → Bool
own_closes (Because.Unread why) = true
own_closes (Because.Rejected why) = true
own_closes Because.InvalidTarget = true
own_closes Because.Connect = true
own_closes Because.LengthRequired = true
own_closes Because.LateRequest = true
own_closes Because.OutOfMemory = true
own_closes own = false

-- the connection ends after the message (RFC 9112, section 9.6)
abbrev pub close_field : Header
close_field = (codes "connection", codes "close")

-- these fields, of the last message too, which says so
abbrev pub closing : Bool → List Header → List Header
closing true fields = fields ++ close_field ∷ []
closing false fields = fields

abbrev pub close_fields : Bool → List Header
close_fields closes = if closes then close_field ∷ [] else []

-- the time at which it is sent (RFC 9110, section 6.6.1)
abbrev pub date_field : OwnDate → Header
date_field d = (codes "date", fixdate d.date)

abbrev pub date_fields : Option OwnDate → List Header
date_fields (Some d) = date_field d ∷ []
date_fields None = []

abbrev pub own_fields : Bool → Option OwnDate → Own → List Header
own_fields is_last date own = date_fields date ++ close_fields (is_last || own_closes own)

-- a response without content, with these fields, is put to its end
abbrev pub PutsWith : List Header → StreamConnection → Own → StreamConnection → Type 0
PutsWith fields old own new = (between : StreamConnection)
    × Responds old (own_status own) (reason_of (own_status own)) fields (Known 0) between × Ends between [] new

-- nothing of it is put, or its head alone
abbrev pub RefusesWith : List Header → StreamConnection → Own → WriteError → StreamConnection → Type 0
RefusesWith fields old own error new =
    RefusesWrite (response_refusal old.server (own_status own) (reason_of (own_status own)) (Known 0) fields) old error
    new
    ⊎ ((between : StreamConnection)
    × Responds old (own_status own) (reason_of (own_status own)) fields (Known 0) between
    × RefusesWrite (finish_refusal between.server.writing []) between error new)

abbrev pub PutsOwn : Bool → Option OwnDate → StreamConnection → Own → StreamConnection → Type 0
PutsOwn is_last date old own = PutsWith (own_fields is_last date own) old own

abbrev pub RefusesOwn : Bool → Option OwnDate → StreamConnection → Own → WriteError → StreamConnection → Type 0
RefusesOwn is_last date old own = RefusesWith (own_fields is_last date own) old own
