-- How a request for notes is answered, and what it changes.
use Rattle.std.specs.Prelude.{◌≡◌, ◌≢◌, ◌⊎◌, ℕ, ◌+◌, List, [], ◌∷◌, ◌++◌, Option, Some, None, codes, length, map}
use Rattle.{std.specs.Str.IsUtf8, http.specs.declared.{request.Request.Request, version.TheConstants.Version.HTTP_10}}
use Rattle.{http.specs.Request.{body_of, head_of}, http_header.specs.{FieldValue.FieldValue, HeaderMap.Entries}}
use Rattle.{http_header.specs.HeaderMap.pairs, http_server.specs.Response.fields, http_uri.specs.Uri.uri_path}
use Rattle.serde_json.specs.Data.{Data}
use Rattle.serde_json.specs.Read.{read as read_text}
use Rattle.headers.specs.{Date.fixdate, LineMap.{Field, fields_of, lines_at, set_all}}
use Rattle.server_connection.specs.declared.{piece.Piece.{Piece, TheVariants.Literal}, plan.ResponsePlan.ResponsePlan}
use Rattle.gateway_messages.specs.declared.protocol.Protocol.TheVariants.{Http10, Http11}
use Rattle.{decide_preconditions.specs.declared.plan.Plan.TheVariants.Full, decide_resource.specs.Answers.IsAnswer}
use Rattle.decide_resource.specs.Requests.{Request as Asked}
use Rattle.decide_resource.{specs.declared.answer.Answer.Answer, specs.declared.answer.Sends.Sends}
use Rattle.decide_resource.specs.declared.answer.Sends.TheVariants as sends
use Rattle.decide_resource.specs.declared.{request.RequestContent.TheVariants.Sized, resource.Resource.Resource}
use Rattle.example_notes.specs.{Notes.{Removes, Writes, list_text, next_tag, note_at, path_of}, Resources.IsResource}
use Rattle.example_notes.specs.{Resources.{collection_methods, note_methods}, Targets.IsTarget}
use Rattle.example_notes.specs.declared.{notes.{Note.Note, Notes.Notes}, perform.Done.Done, service.Service.Service}
use Rattle.example_notes.specs.declared.target.Target.{Target}
use Rattle.example_notes.specs.declared.target.Target.TheVariants as target

-- ---- the resource that a request is about

-- the current text of a target
abbrev pub IsText : Notes → Target → Option Note → Type 0
IsText notes target.Notes text =
    text ≡ Some (record { text = list_text notes; version = notes.changes; series = notes.series })
IsText notes (target.Note id) text = text ≡ note_at notes id
IsText notes target.Nowhere text = text ≡ None
IsText notes target.Server text = text ≡ None

abbrev pub Describes : (nowhere wide : Resource) → Target → Option Note → Resource → Type 0
Describes nowhere wide target.Notes text resource = IsResource collection_methods text resource
Describes nowhere wide (target.Note id) text resource = IsResource note_methods text resource
Describes nowhere wide target.Nowhere text resource = resource ≡ nowhere
Describes nowhere wide target.Server text resource = resource ≡ wide

-- What decisions read of a request. The content was read to its end, so its length is known.
pub record IsAsked (request : Request (List ℕ)) (asked : Asked) : Type 0 where
  pub http_10 : (head_of request).version ≡ HTTP_10 → asked.protocol ≡ Http10
  pub later : (head_of request).version ≢ HTTP_10 → asked.protocol ≡ Http11
  pub method : asked.method ≡ (head_of request).method
  pub authority : asked.authority ≡ None
  pub content : asked.content ≡ Sized (length (body_of request))
  pub fields : asked.fields ≡ lines_at (head_of request).headers
  pub admitted : asked.denied ≡ None

-- the answer of the resource to the request, without a clock, as nothing has a date of modification
pub record IsAnswerBy (resource : Resource) (request : Request (List ℕ)) (answer : Answer) : Type 0 where
  pub asked : Asked
  pub is_asked : IsAsked request asked
  pub answers : IsAnswer 0 resource asked answer

-- the answer of the resource at the target
pub record IsAnswerAt (nowhere wide : Resource) (at : Target) (text : Option Note) (request : Request (List ℕ))
    (answer : Answer) : Type 0 where
  pub resource : Resource
  pub describes : Describes nowhere wide at text resource
  pub answers : IsAnswerBy resource request answer

-- ---- what methods do

-- the content is a JSON text
abbrev pub IsJson : List ℕ → Type 0
IsJson content = IsUtf8 content × (value : Data) × (read_text content ≡ Some value)

abbrev pub HasDone : ℕ → List Field → Done → Type 0
HasDone status made done = (done.status ≡ status) × (fields_of done.fields.items ≡ made)

-- a note is to be removed
abbrev pub IsDeletion : List ℕ → Target → Type 0
IsDeletion method target.Notes = ⊥
IsDeletion method (target.Note id) = method ≡ codes "DELETE"
IsDeletion method target.Nowhere = ⊥
IsDeletion method target.Server = ⊥

-- DELETE removes a note
abbrev pub Deletes : Notes → List ℕ → Target → Notes → Done → Type 0
Deletes before method target.Notes after done = ⊥
Deletes before method (target.Note id) after done =
    IsDeletion method (target.Note id) × Removes before id after × HasDone 204 [] done
Deletes before method target.Nowhere after done = ⊥
Deletes before method target.Server after done = ⊥

-- what isn't JSON is rejected
abbrev pub Rejects : Notes → List ℕ → Notes → Done → Type 0
Rejects before content after done = (¬ (IsJson content)) × (after ≡ before) × HasDone 400 [] done

-- POST adds a note, whose number is that of the change, and PUT overwrites one
abbrev pub Stores : Notes → Target → List ℕ → Notes → Done → Type 0
Stores before target.Notes content after done =
    Writes before (before.changes + 1) content after
    × HasDone 201
    (
    (codes "location", path_of (before.changes + 1) ∷ []) ∷ (codes "etag", next_tag before ∷ []) ∷ []
    )
    done
Stores before (target.Note id) content after done =
    Writes before id content after
    × HasDone 204 ((codes "etag", next_tag before ∷ []) ∷ []) done
Stores before target.Nowhere content after done = (after ≡ before) × HasDone 404 [] done
Stores before target.Server content after done = (after ≡ before) × HasDone 404 [] done

-- what becomes of content
abbrev pub Takes : Notes → Target → List ℕ → Notes → Done → Type 0
Takes before at content after done =
    Rejects before content after done ⊎ (IsJson content × Stores before at content after done)

-- what performing a method does to the notes, and what says so
abbrev pub Performs : Notes → List ℕ → Target → List ℕ → Notes → Done → Type 0
Performs before method at content after done =
    Deletes before method at after done
    ⊎ ((¬ (IsDeletion method at)) × Takes before at content after done)

-- only an answer without a status is performed
abbrev pub Does : Option ℕ → Notes → List ℕ → Target → List ℕ → Notes → Done → Type 0
Does (Some status) before method at content after done = (after ≡ before) × HasDone status [] done
Does None before method at content after done = Performs before method at content after done

-- ---- the plan

-- the whole text, or nothing
abbrev pub pieces_of : Sends → Option Note → List Piece
pieces_of (sends.Planned place Full) (Some note) = Literal note.text ∷ []
pieces_of sent text = []

-- the field lines of the plan are those that these fields leave, each set in its order
abbrev pub Carries : List Field → ResponsePlan → Type 0
Carries sent plan =
    (m : Entries FieldValue) × (fields plan.headers.items ≡ map (λ p. (p.0, p.1.bytes)) (pairs m))
    × ((name : List ℕ) → lines_at m name ≡ set_all (lines_at []) sent name)

-- the field that says when a response is made (section 6.6.1), if the clock tells it
abbrev pub date_fields : Option ℕ → List Field
date_fields None = []
date_fields (Some second) = (codes "date", fixdate second ∷ []) ∷ []

-- The plan is the answer of the resource that the path leads to, with what performing the method did.
pub record IsPlanned (before : Service) (request : Request (List ℕ)) (plan : ResponsePlan) (after : Service)
    : Type 0 where
  pub at : Target
  pub is_at : IsTarget before.routes.router (uri_path (head_of request).uri) at
  pub text : Option Note
  pub is_text : IsText before.notes at text
  pub answer : Answer
  pub answers : IsAnswerAt before.routes.nowhere before.routes.server_wide at text request answer
  pub done : Done
  pub does : Does answer.status before.notes (head_of request).method at (body_of request) after.notes done
  pub status : plan.status ≡ done.status
  pub date : Option ℕ
  pub carries : Carries (date_fields date ++ (fields_of answer.fields.items ++ fields_of done.fields.items)) plan
  pub content : plan.pieces.items ≡ pieces_of answer.sends text
  pub routes : after.routes ≡ before.routes
