-- What a file gives: its bytes, and its validators.
use Rattle.std.specs.Prelude.{◌≡◌, ℕ, ◌+◌, ◌-◌, min, nat_le, Bool, false, if◌then◌else◌, List, [], ◌++◌, length, take}
use Rattle.std.specs.{Prelude.{drop, map, Option, Some, None, Result, Ok, IsOkAnd, ⊤}, Io.ReadsAtMost}
use Rattle.std.specs.{Char.to_ascii_lowercase, Option.unwrap_or, Path.path_extension}
use Rattle.{http_header.specs.FieldValue.{FieldValue, plain_value}, server_connection.specs.Pieces.Gives}
use Rattle.decide_preconditions.specs.{Limits.usual_limits, declared.content.Content.Content}
use Rattle.decide_preconditions.specs.declared.{limits.RangeLimits.RangeLimits, resource.TargetState.TargetState}
use Rattle.decide_preconditions.specs.declared.resource.{TargetState.TheVariants.Current, Validators.Validators}
use Rattle.decide_resource.specs.declared.representation.Representation.{Representation}
use Rattle.server_files.specs.{Codings.{coding_name, is_encoded}, MediaTypes.media_type_of, Tags.content_digest}
use Rattle.server_files.specs.{Tags.strong_tag, declared.coding.Coding.Coding}
use Rattle.server_service.specs.declared.{file.File.File, source.Source.{Source, TheVariants.{Kept, Opened}}}

-- the media type of the file at a path, by the extension of its name in any case
abbrev pub media_type_at : List ℕ → List ℕ
media_type_at path = media_type_of (map to_ascii_lowercase (unwrap_or (path_extension path) []))

-- how many bytes there are; of an open file, how many there were when it was opened
abbrev pub len_of : Source → ℕ
len_of (Kept kept) = length kept.content
len_of (Opened opened) = opened.len

-- These bytes may be read from this place on: of what is kept, those that are there. Of an open file nothing is
-- known.
abbrev pub gives_at : Source → Gives
gives_at (Kept kept) start bytes = bytes ≡ take (length bytes) (drop start kept.content)
gives_at (Opened opened) start bytes = ⊤

-- A read from this place on into a buffer. Of what is kept it takes as many bytes as there are and the buffer has room
-- for, and leaves the rest of the buffer as it is. Of an open file only the system knows what it takes.
abbrev pub Reads : {E : Type 0} → Source → ℕ → List ℕ → List ℕ → Result ℕ E → Type 0
Reads (Kept kept) start old new result =
    IsOkAnd result (λ count. (count ≡ min (length kept.content - start) (length old))
    × (new ≡ take count (drop start kept.content) ++ drop count old))
Reads (Opened opened) start old new result = ReadsAtMost result new

-- the tag: of bytes in memory the digest of them, of an open file the one that it came with
abbrev pub tag_of : Source → Option FieldValue
tag_of (Kept kept) = Some (plain_value (strong_tag (content_digest kept.content)))
tag_of (Opened opened) = opened.tag

-- The date is a strong validator (section 8.8.2.2): it is a minute before the time of the answer at least, which is
-- that of Date, so clocks that differ a little count for nothing. A client names a date in If-Range only if it was
-- answered after the second of that date (section 13.1.5), so it has the representation that the file had when the
-- second ended.
abbrev pub is_settled : ℕ → Option ℕ → Bool
is_settled present None = false
is_settled present (Some modified) = nat_le (modified + 60) present

-- what is known of a file's representation at a time
abbrev pub validators_of : ℕ → File → Validators
validators_of present file = record {
  etag = tag_of file.source;
  last_modified = file.modified;
  is_date_strong = is_settled present file.modified;
}

abbrev pub current_of : ℕ → File → TargetState
current_of present file = Current (validators_of present file)

-- Which ranges of a content are sent. A coding would be that of several parts and their boundaries together (section
-- 8.4), so of a content in a coding there is at most one part.
abbrev pub limits_of : Coding → RangeLimits
limits_of coding =
    if is_encoded coding then record { gap = usual_limits.gap; head = usual_limits.head; parts = 1 } else usual_limits

-- its length, its media type, and which ranges of it are sent
abbrev pub content_of : File → Content
content_of file = record {
  len = Some (len_of file.source);
  media_type = Some file.media_type;
  ranges = Some (limits_of file.coding);
}

-- the value of Content-Encoding (section 8.4), if the coding changes a content
abbrev pub coding_value : Coding → Option FieldValue
coding_value coding = if is_encoded coding then Some (plain_value (coding_name coding)) else None

-- a file as a representation at a time
abbrev pub representation_of : ℕ → File → Representation
representation_of present file = record {
  coding = coding_value file.coding;
  language = None;
  content = content_of file;
  validators = validators_of present file;
}

-- the bytes of an open source, or of none
abbrev pub gives_of : Option Source → Gives
gives_of None start bytes = bytes ≡ []
gives_of (Some source) start bytes = gives_at source start bytes

abbrev pub ReadsOf : {E : Type 0} → Option Source → ℕ → List ℕ → List ℕ → Result ℕ E → Type 0
ReadsOf None start old new result = (result ≡ Ok 0) × (new ≡ old)
ReadsOf (Some source) start old new result = Reads source start old new result
