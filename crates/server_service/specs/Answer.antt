-- What a request is answered with.
use Rattle.std.specs.Prelude.{◌≡◌, ◌⊎◌, ℕ, ◌^◌, ◌<◌, Bool, true, false, nat_lt, List, [], ◌∷◌, ◌++◌, codes, map, max}
use Rattle.std.specs.{Prelude.{slice_get, Option, Some, None, ⊤, if◌then◌else◌, is_some, string_bytes}, List.fold}
use Rattle.{std.specs.{List.list_all, Global.Vec, Option.unwrap_or}, http.specs.declared.request.Request.Request}
use Rattle.{http.specs.Request.head_of, http_header.specs.FieldValue.FieldValue, http1.specs.Fields.Header}
use Rattle.headers.specs.Date.{fixdate}
use Rattle.headers.specs.LineMap.{Field, LineMap, fields_of as encoded_fields}
use Rattle.server_connection.specs.Encoding.{content_len}
use Rattle.server_connection.specs.declared.plan.ResponsePlan.{ResponsePlan as Response}
use Rattle.server_connection.{specs.declared.piece.Piece.Piece, specs.declared.piece.Piece.TheVariants.Range}
use Rattle.decide_preconditions.{specs.declared.plan.Plan.Plan, specs.declared.plan.Plan.TheVariants.NotModified}
use Rattle.decide_preconditions.specs.declared.plan.Plan.TheVariants.{Failed, Full, Single, Multiple, Unsatisfiable}
use Rattle.decide_resource.specs.Answers.{IsAnswer as IsAnswerOf}
use Rattle.decide_resource.specs.Requests.{Request as Asked, head_of as as_head}
use Rattle.decide_resource.specs.declared.answer.{Answer.Answer, Sends.{Sends, TheVariants.{Nothing, Alternatives}}}
use Rattle.decide_resource.specs.declared.{answer.Sends.TheVariants.{Planned, Perform}, reason.Reason.Reason}
use Rattle.decide_resource.specs.declared.reason.Reason.TheVariants.{NotFound}
use Rattle.decide_resource.specs.declared.{representation.Representation.Representation, resource.Resource.Resource}
use Rattle.server_service.specs.{Asked.Asks, File.{len_of, representation_of, tag_of}, Found.LeadsTo}
use Rattle.server_service.specs.{Multipart.multipart, Parts.{Fits, IsKnownToHold, part_extent}, Response.fields_of}
use Rattle.server_service.specs.Response.{headers_sent, is_bare_tag, is_line, page_fields, page_sent, trimmed_lines}
use Rattle.server_service.specs.declared.{file.{Entry.Entry, File.File}, found.Found.Found, settings.Page.Page}
use Rattle.server_service.specs.declared.{settings.Site.Site, source.Source.Source}

-- ---- the resource that a request is about

-- The resource of what was found: the site's, with this state, and with the contents as representations.
pub record IsDescribed (present : ℕ) (site : Resource) (found : Found) (resource : Resource) : Type 0 where
  pub representations : Vec Representation
  pub are : representations.items ≡ map (representation_of present) found.files.items
  pub is : resource ≡ record site { state = found.state; representations = representations }

-- ---- its answer

-- the plan sends several parts
abbrev pub is_several : Plan → Bool
is_several Full = false
is_several (Single part) = false
is_several (Multiple parts) = true
is_several NotModified = false
is_several Failed = false
is_several Unsatisfiable = false

abbrev pub sends_several : Sends → Bool
sends_several Nothing = false
sends_several Alternatives = false
sends_several (Planned place plan) = is_several plan
sends_several Perform = false

-- the file at the place of a representation
abbrev pub file_at : List File → Option ℕ → Option File
file_at files None = None
file_at files (Some place) = slice_get files place

-- the file that an answer sends, or sends parts of
abbrev pub file_sent : List File → Sends → Option File
file_sent files Nothing = None
file_sent files Alternatives = None
file_sent files (Planned place plan) = file_at files place
file_sent files Perform = None

-- the tag of that file, if it has one
abbrev pub tag_in : Option File → Option FieldValue
tag_in None = None
tag_in (Some file) = tag_of file.source

abbrev pub tag_sent : List File → Sends → Option FieldValue
tag_sent files sends = tag_in (file_sent files sends)

-- the bytes are known to occur in the file, if there is one
abbrev pub IsHeldBy : List ℕ → Option File → Type 0
IsHeldBy bytes None = ⊥
IsHeldBy bytes (Some file) = IsKnownToHold file.source bytes

-- No part of the answer is known to hold the boundary of the parts (RFC 2046, section 5.1.1).
abbrev pub IsSendable : List ℕ → List File → Sends → Type 0
IsSendable divider files sends = sends_several sends ≡ true → ¬ (IsHeldBy divider (file_sent files sends))

-- The answer of the resource with these contents. If its parts can't be sent, Range is ignored, as RFC 9110, section
-- 14.2, lets a server do: it is the answer to a HEAD, which is that to a GET without Range.
abbrev pub Decides : ℕ → List ℕ → List File → Resource → Asked → Answer → Type 0
Decides present divider files resource asked answer =
    (IsSendable divider files answer.sends × IsAnswerOf present resource asked answer)
    ⊎ ((first : Answer) × (¬ (IsSendable divider files first.sends)) × IsAnswerOf present resource asked first
    × IsAnswerOf present resource (as_head asked) answer)

-- ---- the response that carries it

-- a cache may use the answer again
abbrev pub is_reusable : Plan → Bool
is_reusable Full = true
is_reusable (Single part) = true
is_reusable (Multiple parts) = true
is_reusable NotModified = true
is_reusable Failed = false
is_reusable Unsatisfiable = false

abbrev pub is_stored : Sends → Bool
is_stored Nothing = false
is_stored Alternatives = false
is_stored (Planned place plan) = is_reusable plan
is_stored Perform = false

-- one field of a value, or none
abbrev pub cache_fields : Option FieldValue → List Header
cache_fields None = []
cache_fields (Some value) = (codes "cache-control", value.bytes) ∷ []

-- Cache-Control, if it is asked for: of 200, 206 and 304
abbrev pub cache_sent : Sends → Option FieldValue → List Header
cache_sent sends cache_control = if is_stored sends then cache_fields cache_control else []

-- the pieces that a plan sends of the file; to a HEAD the connection sends none
abbrev pub pieces_sent : List ℕ → File → Plan → List Piece
pieces_sent divider file Full = Range (record { start = 0; len = len_of file.source }) ∷ []
pieces_sent divider file (Single part) = Range (part_extent part) ∷ []
pieces_sent divider file (Multiple parts) = multipart divider file parts.items
pieces_sent divider file NotModified = []
pieces_sent divider file Failed = []
pieces_sent divider file Unsatisfiable = []

abbrev pub pieces_of : List ℕ → Option File → Plan → List Piece
pieces_of divider None plan = []
pieces_of divider (Some file) plan = pieces_sent divider file plan

-- what is sent: of a file by a plan, or the page of the status
abbrev pub pieces_for : List ℕ → List Page → List File → ℕ → Sends → List Piece
pieces_for divider pages files status Nothing = page_sent pages status
pieces_for divider pages files status Alternatives = page_sent pages status
pieces_for divider pages files status (Planned place plan) = pieces_of divider (file_at files place) plan
pieces_for divider pages files status Perform = []

-- the media type of a page
abbrev pub explained_fields : ℕ → Sends → List Header
explained_fields status Nothing = page_fields status
explained_fields status Alternatives = page_fields status
explained_fields status (Planned place plan) = []
explained_fields status Perform = []

-- the status of an answer; what can't be read has one of its own in the place of 404
abbrev pub status_for : ℕ → Reason → Option ℕ → ℕ
status_for absent NotFound status = absent
status_for absent reason (Some status) = status
status_for absent reason None = 200

-- the parts of a plan lie in the file that they are parts of
abbrev pub FitsOf : Option File → Plan → Type 0
FitsOf None plan = ⊤
FitsOf (Some file) plan = Fits (len_of file.source) plan

abbrev pub FitsIn : List File → Sends → Type 0
FitsIn files Nothing = ⊤
FitsIn files Alternatives = ⊤
FitsIn files (Planned place plan) = FitsOf (file_at files place) plan
FitsIn files Perform = ⊤

-- The response has this status, these fields after those from before, and the pieces that are sent. White space at the
-- ends of a value isn't sent.
pub record Carries (before : List Header) (site : Site) (files : List File) (code : ℕ) (sent : Sends)
    (given : List Field) (response : Response) : Type 0 where
  pub status : response.status ≡ code
  pub headers : fields_of response
      ≡ trimmed_lines (((before ++ cache_sent sent site.cache_control)
      ++ headers_sent (is_some site.resource.cors) given)
      ++ explained_fields code sent)
  pub pieces : response.pieces.items ≡ pieces_for (string_bytes site.divider) site.pages.items files code sent
  pub valid : list_all is_line (fields_of response) ≡ true
  pub tagged : is_bare_tag (tag_sent files sent) ≡ true
  pub short : content_len response < 2 ^ 64

-- the source from which the ranges of a response are read, if it has any
abbrev pub source_of : Option File → Option Source
source_of None = None
source_of (Some file) = Some file.source

abbrev pub source_sent : List File → Sends → Option Source
source_sent files sends = source_of (file_sent files sends)

-- ---- a request

-- the date of a time, if there is a clock and the year has four digits (section 5.6.7)
abbrev pub date_of : Option ℕ → Option ℕ
date_of None = None
date_of (Some seconds) = if nat_lt seconds 253402300800 then Some seconds else None

-- the fields of a date
abbrev pub date_fields : Option ℕ → List Header
date_fields None = []
date_fields (Some seconds) = (codes "date", fixdate seconds) ∷ []

-- browsers take a response for what its media type says (Fetch standard, "X-Content-Type-Options")
abbrev pub sniff_field : Header
sniff_field = (codes "x-content-type-options", codes "nosniff")

-- the connection is done after this response (RFC 9112, section 9.6), if it is the last of so many
abbrev pub closing_fields : ℕ → List Header
closing_fields left = if nat_lt 1 left then [] else (codes "connection", codes "close") ∷ []

-- the later of a time and the date of a content, if it has one
abbrev pub later : ℕ → File → ℕ
later time file = max time (unwrap_or file.modified 0)

-- The time by which a request for these contents is answered. Without a clock it is the latest of their dates, so that
-- each has its own date: section 8.8.2.1 limits it by the time of the response, which is known by a clock alone.
abbrev pub clock : Option ℕ → List File → ℕ
clock None files = fold later 0 files
clock (Some seconds) files = seconds

-- the fields before those of the answer: the date, that browsers shall not guess the type, and whether it is the last
abbrev pub first_fields : Option ℕ → ℕ → List Header
first_fields now left = (date_fields now ++ sniff_field ∷ []) ++ closing_fields left

-- The response to a request at a time, if there is a clock, where the store has this at its paths and so many responses
-- are left: the answer of `decide_resource` for what the path leads to. Its ranges are of this source.
pub record IsAnswerAt (now : Option ℕ) (left : ℕ) (site : Site) (has : List ℕ → Entry → Type 0)
    (request : Request (List ℕ)) (response : Response) (source : Option Source) : Type 0 where
  pub found : Found
  pub leads : LeadsTo site.resource.negotiation.coding has (head_of request).uri found
  pub resource : Resource
  pub described : IsDescribed (clock now found.files.items) site.resource found resource
  pub asked : Asked
  pub asks : Asks request asked
  pub answer : Answer
  pub decides : Decides (clock now found.files.items) (string_bytes site.divider) found.files.items resource asked
      answer
  pub carries : Carries (first_fields now left) site found.files.items
      (status_for found.status answer.reason answer.status) answer.sends (encoded_fields answer.fields.items) response
  pub opens : source ≡ source_sent found.files.items answer.sends

-- the response to a request at a time that the clock of the store tells
abbrev pub IsAnswer : (Option ℕ → Type 0) → ℕ → Site → (List ℕ → Entry → Type 0) → Request (List ℕ) → Response
    → Option Source → Type 0
IsAnswer tells left site has request response source =
    (now : Option ℕ) × IsAnswerAt (date_of now) left site has request response source × tells now

-- both sites say the same of all resources: they differ in the state and the representations of the last request
pub record IsSameSite (before after : Site) : Type 0 where
  pub cache_control : after.cache_control ≡ before.cache_control
  pub divider : after.divider ≡ before.divider
  pub pages : after.pages ≡ before.pages
  pub resource : after.resource
      ≡ record before.resource { state = after.resource.state; representations = after.resource.representations }

-- the request makes no condition, and asks for no range, and for no coding where codings are negotiated
pub record AsksForAll (negotiates : Bool) (request : LineMap) : Type 0 where
  pub if_match : request (codes "if-match") ≡ []
  pub if_none_match : request (codes "if-none-match") ≡ []
  pub if_modified_since : request (codes "if-modified-since") ≡ []
  pub if_unmodified_since : request (codes "if-unmodified-since") ≡ []
  pub range : request (codes "range") ≡ []
  pub accept_encoding : negotiates ≡ true → request (codes "accept-encoding") ≡ []
