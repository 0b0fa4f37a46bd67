-- Answers that are written out, and what their bytes parse as.
use Rattle.std.specs.Prelude.{◌≡◌, ℕ, false, List, [], ◌∷◌, ◌++◌, Option, Some, None, codes, decimal, ◌+◌, bytes_eq}
use Rattle.std.specs.Prelude.{flat_map, if◌then◌else◌}
use Rattle.{http1.specs.Fields.Header, http_header.specs.FieldValue.FieldValue, headers.specs.Date.fixdate}
use Rattle.{headers.specs.{LineMap.LineMap, Lines.Line}, server_connection.specs.Pieces.AreSent}
use Rattle.server_connection.specs.declared.piece.Piece.{Piece, TheVariants.Range}
use Rattle.server_connection.specs.declared.plan.ResponsePlan.{ResponsePlan as Response}
use Rattle.decide_preconditions.specs.{Fields.{lines_sent, not_after}, declared.part.Part.Part}
use Rattle.{decide_resource.specs.Fields.lines_of_value, server_service.specs.Answer.{cache_fields, clock}}
use Rattle.server_service.specs.{Answer.first_fields, File.{coding_value, gives_of, len_of, tag_of}, Response.fields_of}
use Rattle.server_service.specs.{Response.{lines_under, trimmed_lines}, declared.file.File.File}
use Rattle.server_service.specs.declared.{settings.{Settings.Settings, Site.Site}, source.Source.Source}
use Rattle.server_service.specs.declared.source.Source.TheVariants.{Kept as InMemory}
use Rattle.server_files.specs.declared.kept.Kept.{Kept}

-- Cache-Control isn't asked for, all hosts are served, no codings are negotiated, and there is no policy for requests
-- from other origins.
pub record HasNoOptions (settings : Settings) : Type 0 where
  pub cache_control : settings.cache_control ≡ None
  pub hosts : settings.hosts.items ≡ []
  pub negotiates : settings.negotiates ≡ false
  pub cors : settings.cors ≡ None

-- one piece, which is all of the source
abbrev pub all_of : Source → List Piece
all_of source = Range (record { start = 0; len = len_of source }) ∷ []

-- The field lines of the representation that a file is at a present, and of its whole content (RFC 9110, sections 8 and
-- 14.3). It wasn't modified after the present (section 8.8.2.1).
abbrev pub whole_fields : ℕ → File → List Header
whole_fields present file =
    lines_under (codes "content-encoding", lines_of_value (coding_value file.coding))
    ++ (lines_under (codes "etag", lines_sent (λ (tag : FieldValue). tag.bytes) (tag_of file.source))
    ++ (lines_under (codes "last-modified", lines_sent fixdate (not_after present file.modified))
    ++ ((codes "accept-ranges", codes "bytes") ∷ (codes "content-length", decimal (len_of file.source))
    ∷ (codes "content-type", file.media_type.bytes) ∷ [])))

-- The response is a 200 with all of the file, which its ranges are read from. Its fields are, in this order, Date if
-- there is a clock, X-Content-Type-Options, `Connection: close` if it is the last, Cache-Control if it is asked for,
-- and those of the file. White space at the ends of a value isn't sent.
pub record IsWhole (now : Option ℕ) (left : ℕ) (site : Site) (file : File) (response : Response)
    (source : Option Source) : Type 0 where
  pub status : response.status ≡ 200
  pub fields : fields_of response
      ≡ trimmed_lines ((first_fields now left ++ cache_fields site.cache_control)
      ++ whole_fields (clock now (file ∷ [])) file)
  pub pieces : response.pieces.items ≡ all_of file.source
  pub opens : source ≡ Some file.source

-- of a file in memory, exactly the content is sent
abbrev pub SendsContent : File → Response → Option Source → Type 0
SendsContent file response source =
    (kept : Kept) (sent : List ℕ) → file.source ≡ InMemory kept
    → AreSent (gives_of source) response.pieces.items sent → sent ≡ kept.content

-- one part begins at the start of a content of this length, and the other where that one ends, and goes to the end
pub record JoinTo (len : ℕ) (first second : Part) : Type 0 where
  pub begins : first.first ≡ 0
  pub meet : second.first ≡ first.last + 1
  pub ends : second.last + 1 ≡ len

-- the value of a field line, if it has this name
abbrev pub line_named : List ℕ → Header → List Line
line_named name header = if bytes_eq header.0 name then header.1 ∷ [] else []

-- the field lines under each name, in order
abbrev pub lines_in : List Header → LineMap
lines_in headers name = flat_map (line_named name) headers
