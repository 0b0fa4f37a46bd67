-- The status and the fields of a response (RFC 9110).
use Rattle.std.specs.Prelude.{◌≡◌, ◌≢◌, ◌⊎◌, ℕ, ◌+◌, ◌^◌, ◌<◌, ◌≤◌, ⊤, Bool, nat_lt, List, [], ◌∷◌, ◌++◌, length, All}
use Rattle.std.specs.Prelude.{Option, Some, None, codes, decimal, min, option_map, true, false, not, if◌then◌else◌}
use Rattle.{http_header.specs.FieldValue.FieldValue, headers.specs.ContentBytes.{ContentBytes, content_text}}
use Rattle.headers.specs.{Date.fixdate, LineMap.{LineMap, Field}, Lines.Line}
use Rattle.decide_preconditions.specs.{Conditions.modified_of, Contents.is_divisible, Parts.part_size}
use Rattle.decide_preconditions.specs.declared.{content.Content.Content, part.Part.Part, plan.Plan.Plan}
use Rattle.decide_preconditions.specs.declared.plan.Plan.TheVariants.{NotModified, Failed, Full, Single, Multiple}
use Rattle.decide_preconditions.specs.declared.{plan.Plan.TheVariants.Unsatisfiable, resource.TargetState.TargetState}
use Rattle.decide_preconditions.specs.declared.resource.TargetState.TheVariants.{Missing, Current}

-- sections 15.3.1, 15.3.7, 15.4.5, 15.5.13 and 15.5.17
abbrev pub status_of : Plan → ℕ
status_of Full = 200
status_of (Single part) = 206
status_of (Multiple parts) = 206
status_of NotModified = 304
status_of Failed = 412
status_of Unsatisfiable = 416

-- the entity tag of the current representation, if it has one
abbrev pub etag_of : TargetState → Option FieldValue
etag_of Missing = None
etag_of (Current validators) = validators.etag

-- ---- which values are sent

-- the request names in If-Range a representation that its client knows
abbrev pub is_known_by : LineMap → Bool
is_known_by request = nat_lt 0 (length (request (codes "if-range")))

-- the value, unless the client knows it
abbrev pub unless_known : {V : Type 0} → Bool → Option V → Option V
unless_known is_known value = if is_known then None else value

-- ETag: of 200, 206 (section 15.3.7) and 304 (section 15.4.5)
abbrev pub etag_sent : Plan → Option FieldValue → Option FieldValue
etag_sent Failed etag = None
etag_sent Unsatisfiable etag = None
etag_sent plan etag = etag

-- the second, if there is no tag
abbrev pub modified_without : Option FieldValue → Option ℕ → Option ℕ
modified_without None modified = modified
modified_without (Some etag) modified = None

-- Last-Modified: of 200, of 206 unless the client knows it (section 15.3.7), and of 304 if there is no tag by which a
-- cache could be updated (section 15.4.5)
abbrev pub modified_sent : Plan → Bool → Option FieldValue → Option ℕ → Option ℕ
modified_sent Full is_known etag modified = modified
modified_sent (Single part) is_known etag modified = unless_known is_known modified
modified_sent (Multiple parts) is_known etag modified = unless_known is_known modified
modified_sent NotModified is_known etag modified = modified_without etag modified
modified_sent plan is_known etag modified = None

-- a date of modification that is later than the response is replaced by the time of the response (section 8.8.2.1)
abbrev pub not_after : ℕ → Option ℕ → Option ℕ
not_after present modified = option_map (min present) modified

-- Accept-Ranges (section 14.3): of the responses that a range could have changed, if the server sends ranges
abbrev pub units_sent : Plan → Bool → Option Line
units_sent NotModified divisible = None
units_sent Failed divisible = None
units_sent plan divisible = if divisible then Some (codes "bytes") else None

-- the Content-Range of a part, and that of no part, in a representation of this length
abbrev pub range_of : Part → ℕ → ContentBytes
range_of part len = record { range = Some (part.first, part.last); length = Some len }

abbrev pub no_range : ℕ → ContentBytes
no_range len = record { range = None; length = Some len }

-- Content-Range (section 14.4): of 206 with one part, which it names, and of 416, where it has the length alone. A
-- response with several parts has none (section 15.3.7.2).
abbrev pub range_sent : Plan → Option ℕ → Option ContentBytes
range_sent (Single part) len = option_map (range_of part) len
range_sent Unsatisfiable len = option_map no_range len
range_sent plan len = None

-- Content-Length (section 8.6): of 200, if it is known, and of 206 with one part; 412 and 416 have no content here. The
-- length of several parts is that of their encoding, and 304 has none.
abbrev pub length_sent : Plan → Option ℕ → Option ℕ
length_sent Full len = len
length_sent (Single part) len = Some (part_size part)
length_sent (Multiple parts) len = None
length_sent NotModified len = None
length_sent Failed len = Some 0
length_sent Unsatisfiable len = Some 0

-- Content-Encoding stays as the server set it if it is the coding of the content: in a 200, and in a 206 with one part
-- unless the client knows it (section 15.3.7). What is sent as several parts is a `multipart/byteranges`, which has no
-- coding itself (section 8.4). A 304 has only those fields by which a cache is updated (section 15.4.5), and in a 412
-- and a 416 nothing is encoded.
abbrev pub keeps_encoding : Plan → Bool → Bool
keeps_encoding Full is_known = true
keeps_encoding (Single part) is_known = not is_known
keeps_encoding plan is_known = false

-- The content is all of the representation, so a digest of that content is true of it (sections 15.3.7 and 15.4.5).
abbrev pub is_whole : Plan → Bool
is_whole Full = true
is_whole plan = false

-- Content-Type (section 8.3): that of the representation for 200, and for 206 with one part unless the client knows it
-- (section 15.3.7), and `multipart/byteranges` with the boundary for several parts (section 15.3.7.2)
abbrev pub type_sent : Plan → Bool → Option FieldValue → FieldValue → Option FieldValue
type_sent Full is_known media_type multipart = media_type
type_sent (Single part) is_known media_type multipart = unless_known is_known media_type
type_sent (Multiple parts) is_known media_type multipart = Some multipart
type_sent plan is_known media_type multipart = None

-- ---- the field lines of each field

-- one field line of a value, or none
abbrev pub lines_sent : {V : Type 0} → (V → Line) → Option V → List Line
lines_sent text None = []
lines_sent text (Some value) = text value ∷ []

-- Content-Encoding without field lines, unless it stays
abbrev pub encoding_removed : Plan → Bool → List Field
encoding_removed plan is_known = if keeps_encoding plan is_known then [] else (codes "content-encoding", []) ∷ []

-- Content-Digest (RFC 9530, section 2) and Content-MD5 (RFC 1864) without field lines, unless they stay
abbrev pub digests_removed : Plan → List Field
digests_removed plan = if is_whole plan then [] else (codes "content-digest", []) ∷ (codes "content-md5", []) ∷ []

-- the fields that a server removes if it has set them
abbrev pub fields_removed : Plan → Bool → List Field
fields_removed plan is_known = encoding_removed plan is_known ++ digests_removed plan

-- The fields of a response at this time with this plan, each by its section above. One without field lines is absent
-- from the response: a server that has set it removes it. `multipart` is the type of several parts.
abbrev pub fields_sent : ℕ → Plan → Bool → TargetState → Content → FieldValue → List Field
fields_sent present plan is_known resource content multipart =
    (codes "etag", lines_sent (λ (tag : FieldValue). tag.bytes) (etag_sent plan (etag_of resource)))
    ∷ (
      codes "last-modified",
      lines_sent fixdate (not_after present (modified_sent plan is_known (etag_of resource) (modified_of resource))),
    )
    ∷ (codes "accept-ranges", lines_sent (λ (units : Line). units) (units_sent plan (is_divisible content)))
    ∷ (codes "content-range", lines_sent content_text (range_sent plan content.len))
    ∷ (codes "content-length", lines_sent decimal (length_sent plan content.len))
    ∷ (
      codes "content-type",
      lines_sent (λ (line : FieldValue). line.bytes) (type_sent plan is_known content.media_type multipart),
    )
    ∷ fields_removed plan is_known

-- the names of the fields that a response sets or removes
abbrev pub sent_names : List (List ℕ)
sent_names =
    codes "content-encoding" ∷ codes "etag" ∷ codes "last-modified" ∷ codes "accept-ranges" ∷ codes "content-range"
    ∷ codes "content-length" ∷ codes "content-type" ∷ codes "content-digest" ∷ codes "content-md5" ∷ []

-- A server's fields after those of a response are set: each field of the response has exactly its own field lines,
-- Content-Encoding and digests of the content stay or are removed, and each other field is unchanged.
pub record SendsFields (present : ℕ) (plan : Plan) (is_known : Bool) (resource : TargetState) (content : Content)
    (multipart : FieldValue) (before after : LineMap) : Type 0 where
  pub etag : after (codes "etag") ≡ lines_sent (λ (tag : FieldValue). tag.bytes) (etag_sent plan (etag_of resource))
  pub last_modified : after (codes "last-modified")
      ≡ lines_sent fixdate (not_after present (modified_sent plan is_known (etag_of resource) (modified_of resource)))
  pub accept_ranges : after (codes "accept-ranges")
      ≡ lines_sent (λ (units : Line). units) (units_sent plan (is_divisible content))
  pub content_range : after (codes "content-range") ≡ lines_sent content_text (range_sent plan content.len)
  pub content_length : after (codes "content-length") ≡ lines_sent decimal (length_sent plan content.len)
  pub content_type : after (codes "content-type")
      ≡ lines_sent (λ (line : FieldValue). line.bytes) (type_sent plan is_known content.media_type multipart)
  pub content_encoding : after (codes "content-encoding")
      ≡ (if keeps_encoding plan is_known then before (codes "content-encoding") else [])
  pub content_digest : after (codes "content-digest")
      ≡ (if is_whole plan then before (codes "content-digest") else [])
  pub content_md5 : after (codes "content-md5") ≡ (if is_whole plan then before (codes "content-md5") else [])
  pub others : (name : List ℕ) → All (λ own. own ≢ name) sent_names → after name ≡ before name

-- there is no date of modification, or one that isn't after the time of the response (section 8.8.2.1)
abbrev pub IsModifiedBy : ℕ → List Line → Type 0
IsModifiedBy present lines = (lines ≡ []) ⊎ ((date : ℕ) × (date ≤ present) × (lines ≡ fixdate date ∷ []))

-- the positions of one part are in order, and their number fits a length
abbrev pub IsSized : Plan → Type 0
IsSized (Single part) = (part.first ≤ part.last) × (part.last + 1 < 2 ^ 64)
IsSized plan = ⊤

-- the field lines of a header's encoding, or none
abbrev pub written : {V : Type 0} → (V → List Line) → Option V → List Line
written writes None = []
written writes (Some value) = writes value
