-- How programs differ in where a request ends in the bytes of a connection (RFC 9112, sections 2.2, 3, 5, 6, 7.1 and
-- 11.2): a family of readers, and the request that each takes from the front of some bytes.
use Rattle.std.specs.Prelude.{◌≡◌, ◌⊎◌, ⊤, ℕ, zero, suc, ◌-◌, Bool, true, false, ◌&&◌, ◌||◌, filter, map, List, [], ◌∷◌}
use Rattle.std.specs.Prelude.{◌++◌, length, drop, reverse, take, Option, Some, None, All, codes, if◌then◌else◌, ◌==◌}
use Rattle.std.specs.Prelude.{bytes_eq, nat_le, nat_lt, option_and_then, option_map, not, is_some, flat_map}
use Rattle.std.specs.Option.{option_map_or}
use Rattle.std.specs.Char.{is_ascii_alphanumeric, is_ascii_digit, is_ascii_hexdigit, to_ascii_lowercase}
use Rattle.std.specs.List.{concat, join_with_byte, last_or, list_all, list_any, slice_split}
use Rattle.std.specs.Str.Parse.{digits_value, without_leading_plus}
use Rattle.httparse.specs.Ascii.{carriage_return, colon, comma, line_feed, semicolon, space}
use Rattle.httparse.specs.Grammar.{is_ows, is_token, is_value_byte, skip_ows, trim_ows}
use Rattle.http1.specs.Conservative.{IsPlainBody, IsPlainRequest}
use Rattle.http1.specs.Fields.{Header, elements, is_named, is_number_of}
use Rattle.http1.specs.Text.{eq_ignore_case}
use Rattle.http1.specs.declared.framing.Framing.{Framing}
use Rattle.http1.specs.declared.framing.Framing.TheVariants.{Length, NoBody, UntilClose}
use Rattle.http1.specs.Conn.{planned_headers}
use Rattle.gateway_connection.specs.Exchanges.{Request, plan_of, request_bytes}
use Rattle.gateway_connection.specs.History.{Asked, Fresh, Hears, Now, Over, Past}
use Rattle.http1.specs.declared.framing.Framing.TheVariants as Framed

-- what the front of some bytes is: too little to say, no message, or this, and these bytes follow it
pub data Verdict (A : Type 0) : Type 0 where
  NeedsMore : Verdict A
  Rejects : Verdict A
  Takes : A → List ℕ → Verdict A

-- and then what follows it is read
abbrev pub and_reads : {A B : Type 0} → Verdict A → (A → List ℕ → Verdict B) → Verdict B
and_reads NeedsMore next = NeedsMore
and_reads Rejects next = Rejects
and_reads (Takes a rest) next = next a rest

-- ---- how readers differ

-- what a CR or an LF alone is
pub data Alone : Type 0 where
  EndsLine IsData IsMalformed : Alone

-- what becomes of something that the grammar doesn't have there: the message is rejected, it is left out, or it is
-- taken as it is
pub data Odd : Type 0 where
  Rejected LeftOut Kept : Odd

-- what is between the words of a request line: one space, spaces, any blanks, or one space where the target may have
-- spaces in it
pub data Words : Type 0 where
  OneSpace Spaces Blanks SpacesInTarget : Words

-- what a line that begins with a blank is: malformed, more of the line before it, or a field line of its own
pub data Folds : Type 0 where
  NoFolds Joined OwnLines : Folds

-- what is taken for a dash in a name: an underscore too, or each byte that is neither a letter nor a digit
pub data Spelling : Type 0 where
  Dash DashOrUnderscore DashOrMark : Spelling

-- which value counts if a field has several lines: the first, the last, all joined by commas, the one that they all
-- have, or none, since the message is rejected
pub data Repeated : Type 0 where
  First Last Commas Same No : Repeated

-- what a length is: digits alone, the digits in front after a plus perhaps, or a list of one number
pub data Number : Type 0 where
  Digits Leading Members : Number

-- which Transfer-Encoding is chunked: that value alone, a list that ends with it, or a value with the word in it
pub data Codings : Type 0 where
  Whole LastMember Anywhere : Codings

-- which field goes first, or that a message with both is rejected
pub data Precedence : Type 0 where
  CodingFirst LengthFirst RejectsBoth : Precedence

-- what may follow the digits of a chunk's size: nothing, blanks, `;` and any text, the same after blanks, any text
-- after a blank too, or any text
pub data Extensions : Type 0 where
  NoText OnlyBlanks Text BlanksAndText BlankOrText AnyText : Extensions

-- how a chunk's data ends: with a line end, with CRLF, with any two bytes, or with a line of any text
pub data DataEnd : Type 0 where
  LineEnd Crlf TwoBytes AnyLine : DataEnd

pub record LineEnds : Type 0 where
  pub bare_lf : Alone
  pub bare_cr : Alone

pub record Head : Type 0 where
  pub method : List ℕ
  pub target : List ℕ
  pub version : List ℕ
  pub fields : List Header

-- A reader. The last three are any other reasons to reject a message: its head and how many bytes that has, its
-- content, and its trailer lines.
pub record Reader : Type 0 where
  pub skips_empty_lines : Bool
  pub head_lines : LineEnds
  pub words : Words
  pub folds : Folds
  pub controls : Odd
  pub no_colon : Odd
  pub name_blanks : Odd
  pub odd_names : Odd
  pub spelling : Spelling
  pub lengths : Repeated
  pub number : Number
  pub coding_lines : Repeated
  pub codings : Codings
  pub other_codings : Odd
  pub http10_has_codings : Bool
  pub both : Precedence
  pub chunk_lines : LineEnds
  pub blanks_before_size : Bool
  pub no_size_is_zero : Bool
  pub extensions : Extensions
  pub data_end : DataEnd
  pub trailer_lines : LineEnds
  pub parses_trailers : Bool
  -- lengths and sizes from these numbers on are rejected, and sizes with more digits
  pub length_limit : ℕ
  pub size_limit : ℕ
  pub size_digits : ℕ
  pub rejects_head : ℕ → Head → Bool
  pub rejects_content : List ℕ → Bool
  pub rejects_trailers : List (List ℕ) → Bool

-- ---- lines

abbrev pub with_byte : ℕ → Verdict (List ℕ) → Verdict (List ℕ)
with_byte b line = and_reads line (λ bytes rest. Takes (b ∷ bytes) rest)

-- a byte that is a line end or not, what follows it, and what the line is from there on
abbrev pub reads_alone : Alone → ℕ → List ℕ → Verdict (List ℕ) → Verdict (List ℕ)
reads_alone EndsLine b rest line = Takes [] rest
reads_alone IsData b rest line = with_byte b line
reads_alone IsMalformed b rest line = Rejects

abbrev pub reads_cr : LineEnds → List ℕ → Verdict (List ℕ) → Verdict (List ℕ)
reads_cr ends [] line = NeedsMore
reads_cr ends (b ∷ rest) line =
    if b == line_feed then Takes [] rest else reads_alone ends.bare_cr carriage_return (b ∷ rest) line

abbrev pub read_line : LineEnds → List ℕ → Verdict (List ℕ)
read_line ends [] = NeedsMore
read_line ends (b ∷ rest) =
    if b == line_feed then reads_alone ends.bare_lf b rest (read_line ends rest)
    else (if b == carriage_return then reads_cr ends rest (read_line ends rest)
    else with_byte b (read_line ends rest))

abbrev pub is_empty : List ℕ → Bool
is_empty text = length text == 0

-- The lines before an empty line. The number is one of lines that there can't be.
abbrev pub read_section : LineEnds → ℕ → List ℕ → Verdict (List (List ℕ))
read_section ends zero bytes = NeedsMore
read_section ends (suc most) bytes = and_reads (read_line ends bytes) (λ line rest.
    if is_empty line then Takes [] rest
    else and_reads (read_section ends most rest) (λ lines after. Takes (line ∷ lines) after))

-- the first line, or if empty lines are skipped the first one with text
abbrev pub read_start : Reader → ℕ → List ℕ → Verdict (List ℕ)
read_start r zero bytes = NeedsMore
read_start r (suc most) bytes = and_reads (read_line r.head_lines bytes) (λ line rest.
    if r.skips_empty_lines && is_empty line then read_start r most rest else Takes line rest)

-- ---- request lines

abbrev pub start : List ℕ → List ℕ → List ℕ → Head
start method target version = record { method = method; target = target; version = version; fields = [] }

abbrev pub three_words : List (List ℕ) → Option Head
three_words (method ∷ target ∷ version ∷ []) = Some (start method target version)
three_words words = None

abbrev pub text_words : List (List ℕ) → List (List ℕ)
text_words words = filter (λ word. nat_lt 0 (length word)) words

-- the last word is the version
abbrev pub last_word : List ℕ → List (List ℕ) → Option Head
last_word method (version ∷ target ∷ targets) =
    Some (start method (join_with_byte space (reverse (target ∷ targets))) version)
last_word method words = None

abbrev pub outer_words : List (List ℕ) → Option Head
outer_words [] = None
outer_words (method ∷ words) = last_word method (reverse words)

abbrev pub is_space : ℕ → Bool
is_space b = b == space

-- the head, without fields
abbrev pub start_of : Words → List ℕ → Option Head
start_of OneSpace line = three_words (slice_split is_space line)
start_of Spaces line = three_words (text_words (slice_split is_space line))
start_of Blanks line = three_words (text_words (slice_split is_ows line))
start_of SpacesInTarget line = outer_words (slice_split is_space line)

-- ---- field lines

abbrev pub begins_blank : List ℕ → Bool
begins_blank [] = false
begins_blank (b ∷ line) = is_ows b

abbrev pub join_fold : List ℕ → List (List ℕ) → List (List ℕ)
join_fold line [] = line ∷ []
join_fold line (next ∷ lines) = if begins_blank next then (line ++ next) ∷ lines else line ∷ next ∷ lines

abbrev pub joined_folds : List (List ℕ) → List (List ℕ)
joined_folds [] = []
joined_folds (line ∷ lines) = join_fold line (joined_folds lines)

abbrev pub unfolded : Folds → List (List ℕ) → Option (List (List ℕ))
unfolded NoFolds lines = if list_any begins_blank lines then None else Some lines
unfolded Joined lines = Some (joined_folds lines)
unfolded OwnLines lines = Some (map skip_ows lines)

-- the line, of which a control byte is odd
abbrev pub without_controls : Odd → List ℕ → Option (List ℕ)
without_controls Rejected line = if list_all is_value_byte line then Some line else None
without_controls LeftOut line = Some (filter is_value_byte line)
without_controls Kept line = Some line

-- what is before the first colon, and what is after it
abbrev pub cut_at_colon : List ℕ → Option Header
cut_at_colon [] = None
cut_at_colon (b ∷ line) =
    if b == colon then Some ([], line) else option_map (λ field. (b ∷ field.0, field.1)) (cut_at_colon line)

-- the field, which is odd or not
abbrev pub taken : Odd → Bool → Header → Option (List Header)
taken odd true field = Some (field ∷ [])
taken Rejected false field = None
taken LeftOut false field = Some []
taken Kept false field = Some (field ∷ [])

-- the name, of which blanks around it are odd
abbrev pub without_blanks : Odd → List ℕ → Option (List ℕ)
without_blanks Rejected name = if bytes_eq (trim_ows name) name then Some name else None
without_blanks LeftOut name = Some (trim_ows name)
without_blanks Kept name = Some name

abbrev pub field_by : Reader → List ℕ → Option Header → Option (List Header)
field_by r line None = taken r.no_colon false (line, [])
field_by r line (Some field) = option_and_then (λ name. taken r.odd_names (is_token name) (name, trim_ows field.1))
    (without_blanks r.name_blanks field.0)

-- the fields of a line: one, or none if it is left out
abbrev pub line_fields : Reader → List ℕ → Option (List Header)
line_fields r line = option_and_then (λ clean. field_by r clean (cut_at_colon clean)) (without_controls r.controls line)

abbrev pub both_fields : Option (List Header) → Option (List Header) → Option (List Header)
both_fields (Some first) (Some later) = Some (first ++ later)
both_fields first later = None

abbrev pub each_field : Reader → List (List ℕ) → Option (List Header)
each_field r [] = Some []
each_field r (line ∷ lines) = both_fields (line_fields r line) (each_field r lines)

abbrev pub fields_of : Reader → List (List ℕ) → Option (List Header)
fields_of r lines = option_and_then (each_field r) (unfolded r.folds lines)

-- ---- framing

-- the name, in lower case and with a dash for what is taken for one
abbrev pub spelled : Spelling → List ℕ → List ℕ
spelled Dash name = map to_ascii_lowercase name
spelled DashOrUnderscore name = map (λ b. if b == 95 then 45 else to_ascii_lowercase b) name
spelled DashOrMark name = map (λ b. if is_ascii_alphanumeric b then to_ascii_lowercase b else 45) name

abbrev pub is_taken_for : Reader → List ℕ → Header → Bool
is_taken_for r name field = bytes_eq (spelled r.spelling field.0) name

abbrev pub values_for : Reader → List ℕ → List Header → List (List ℕ)
values_for r name fields = map (λ field. field.1) (filter (is_taken_for r name) fields)

-- what fields state: nothing, a value, or what can't be
pub data Stated (A : Type 0) : Type 0 where
  Nothing : Stated A
  Value : A → Stated A
  Nonsense : Stated A

abbrev pub stated : {A : Type 0} → Option A → Stated A
stated None = Nonsense
stated (Some a) = Value a

-- the value that counts
abbrev pub counting : Repeated → List ℕ → List (List ℕ) → Option (List ℕ)
counting First value values = Some value
counting Last value values = last_or (Some value) values
counting Commas value values = Some (join_with_byte comma (value ∷ values))
counting Same value values = if list_all (bytes_eq value) values then Some value else None
counting No value [] = Some value
counting No value values = None

abbrev pub front_of : (ℕ → Bool) → List ℕ → List ℕ
front_of test [] = []
front_of test (b ∷ bytes) = if test b then b ∷ front_of test bytes else []

abbrev pub after_front : (ℕ → Bool) → List ℕ → List ℕ
after_front test [] = []
after_front test (b ∷ bytes) = if test b then after_front test bytes else b ∷ bytes

abbrev pub digits_below : ℕ → List ℕ → Option ℕ
digits_below limit text =
    if nat_lt 0 (length text) && (list_all is_ascii_digit text && nat_lt (digits_value 10 text) limit)
    then Some (digits_value 10 text) else None

-- all members are the same number
abbrev pub one_number : ℕ → List (List ℕ) → Option ℕ
one_number limit [] = None
one_number limit (first ∷ members) =
    if list_all (λ member. is_number_of (digits_value 10 first) member) members then digits_below limit first else None

abbrev pub length_in : Number → ℕ → List ℕ → Option ℕ
length_in Digits limit text = digits_below limit text
length_in Leading limit text = digits_below limit (front_of is_ascii_digit (without_leading_plus (skip_ows text)))
length_in Members limit text = one_number limit (elements text)

abbrev pub stated_length : Reader → List (List ℕ) → Stated ℕ
stated_length r [] = Nothing
stated_length r (value ∷ values) =
    stated (option_and_then (length_in r.number r.length_limit) (counting r.lengths value values))

abbrev pub begins_with : List ℕ → List ℕ → Bool
begins_with [] text = true
begins_with (a ∷ word) [] = false
begins_with (a ∷ word) (b ∷ text) = (a == b) && begins_with word text

abbrev pub has_word : List ℕ → List ℕ → Bool
has_word word [] = is_empty word
has_word word (b ∷ text) = begins_with word (b ∷ text) || has_word word text

abbrev pub says_chunked : Codings → List ℕ → Bool
says_chunked Whole value = eq_ignore_case value (codes "chunked")
says_chunked LastMember value =
    option_map_or (λ member. eq_ignore_case member (codes "chunked")) (last_or None (elements value)) false
says_chunked Anywhere value = has_word (codes "chunked") (map to_ascii_lowercase value)

abbrev pub odd_coding : Odd → Stated ⊤
odd_coding Rejected = Nonsense
odd_coding LeftOut = Nothing
odd_coding Kept = Value tt

abbrev pub coding_by : Reader → Option (List ℕ) → Stated ⊤
coding_by r None = Nonsense
coding_by r (Some value) = if says_chunked r.codings value then Value tt else odd_coding r.other_codings

-- whether the content is chunked
abbrev pub stated_coding : Reader → List (List ℕ) → Stated ⊤
stated_coding r [] = Nothing
stated_coding r (value ∷ values) = coding_by r (counting r.coding_lines value values)

-- how far the content goes
pub data Extent : Type 0 where
  Sized : ℕ → Extent
  Chunked : Extent

abbrev pub extent_by : Precedence → Stated ℕ → Stated ⊤ → Option Extent
extent_by precedence Nothing Nothing = Some (Sized 0)
extent_by precedence (Value len) Nothing = Some (Sized len)
extent_by precedence Nonsense Nothing = None
extent_by precedence len Nonsense = None
extent_by precedence Nothing (Value chunked) = Some Chunked
extent_by CodingFirst len (Value chunked) = Some Chunked
extent_by LengthFirst (Value len) (Value chunked) = Some (Sized len)
extent_by precedence len (Value chunked) = None

-- the values of Transfer-Encoding that count in this version
abbrev pub codings_for : Reader → Head → List (List ℕ)
codings_for r head =
    if not r.http10_has_codings && bytes_eq head.version (codes "HTTP/1.0") then []
    else values_for r (codes "transfer-encoding") head.fields

abbrev pub extent_of : Reader → Head → Option Extent
extent_of r head = extent_by r.both (stated_length r (values_for r (codes "content-length") head.fields))
    (stated_coding r (codings_for r head))

-- ---- chunks

abbrev pub text_before : List ℕ → Bool
text_before [] = true
text_before (b ∷ text) = b == semicolon

-- whether this may follow the digits of a size
abbrev pub may_follow_size : Extensions → List ℕ → Bool
may_follow_size NoText text = is_empty text
may_follow_size OnlyBlanks text = is_empty (skip_ows text)
may_follow_size Text text = text_before text
may_follow_size BlanksAndText text = text_before (skip_ows text)
may_follow_size BlankOrText text = text_before text || begins_blank text
may_follow_size AnyText text = true

-- the size in a line
abbrev pub size_in : Reader → List ℕ → Option ℕ
size_in r line =
    let text = if r.blanks_before_size then skip_ows line else line in
    let digits = front_of is_ascii_hexdigit text in
    if (nat_lt 0 (length digits) || r.no_size_is_zero)
    && (nat_le (length digits) r.size_digits && (nat_lt (digits_value 16 digits) r.size_limit
    && may_follow_size r.extensions (after_front is_ascii_hexdigit text)))
    then Some (digits_value 16 digits) else None

abbrev pub read_data_end : DataEnd → LineEnds → List ℕ → Verdict ⊤
read_data_end LineEnd ends bytes =
    and_reads (read_line ends bytes) (λ line rest. if is_empty line then Takes tt rest else Rejects)
read_data_end Crlf ends [] = NeedsMore
read_data_end Crlf ends (a ∷ []) = NeedsMore
read_data_end Crlf ends (a ∷ b ∷ rest) = if (a == carriage_return) && (b == line_feed) then Takes tt rest else Rejects
read_data_end TwoBytes ends bytes = if nat_lt (length bytes) 2 then NeedsMore else Takes tt (drop 2 bytes)
read_data_end AnyLine ends bytes = and_reads (read_line ends bytes) (λ line rest. Takes tt rest)

-- whether the trailer lines may be
abbrev pub are_trailers : Reader → List (List ℕ) → Bool
are_trailers r lines = not (r.rejects_trailers lines) && (not r.parses_trailers || is_some (fields_of r lines))

-- the last chunk has no data
abbrev pub read_end : Reader → List ℕ → Verdict (List ℕ)
read_end r bytes = and_reads (read_section r.trailer_lines (length bytes) bytes) (λ lines rest.
    if are_trailers r lines then Takes [] rest else Rejects)

-- the data of a chunk of this size, and then the content of the chunks after it
abbrev pub read_data : Reader → (List ℕ → Verdict (List ℕ)) → ℕ → List ℕ → Verdict (List ℕ)
read_data r later size bytes =
    if nat_lt (length bytes) size then NeedsMore
    else and_reads (read_data_end r.data_end r.chunk_lines (drop size bytes)) (λ ended rest.
    and_reads (later rest) (λ content after. Takes (take size bytes ++ content) after))

abbrev pub read_chunk : Reader → (List ℕ → Verdict (List ℕ)) → Option ℕ → List ℕ → Verdict (List ℕ)
read_chunk r later None bytes = Rejects
read_chunk r later (Some size) bytes = if size == 0 then read_end r bytes else read_data r later size bytes

-- The content of chunks. The number is one of chunks that there can't be.
abbrev pub read_chunks : Reader → ℕ → List ℕ → Verdict (List ℕ)
read_chunks r zero bytes = NeedsMore
read_chunks r (suc most) bytes =
    and_reads (read_line r.chunk_lines bytes) (λ line rest. read_chunk r (read_chunks r most) (size_in r line) rest)

-- ---- requests

-- What a reader takes. What it makes of other fields is its own affair.
pub record Message : Type 0 where
  pub method : List ℕ
  pub target : List ℕ
  pub content : List ℕ

abbrev pub head_of : Reader → List ℕ → List (List ℕ) → Option Head
head_of r line lines =
    option_and_then (λ head. option_map (λ fields. record head { fields = fields }) (fields_of r lines))
    (start_of r.words line)

abbrev pub read_extent : Reader → Option Extent → List ℕ → Verdict (List ℕ)
read_extent r None bytes = Rejects
read_extent r (Some (Sized len)) bytes =
    if nat_lt (length bytes) len then NeedsMore else Takes (take len bytes) (drop len bytes)
read_extent r (Some Chunked) bytes = read_chunks r (length bytes) bytes

abbrev pub read_content : Reader → ℕ → Option Head → List ℕ → Verdict Message
read_content r len None bytes = Rejects
read_content r len (Some head) bytes =
    if r.rejects_head len head then Rejects
    else and_reads (read_extent r (extent_of r head) bytes) (λ content rest.
    if r.rejects_content content then Rejects
    else Takes (record { method = head.method; target = head.target; content = content }) rest)

-- What a reader takes from the front of some bytes.
unfoldable pub read_request : Reader → List ℕ → Verdict Message
read_request r bytes = and_reads (read_start r (length bytes) bytes) (λ line after.
    and_reads (read_section r.head_lines (length after) after) (λ lines rest.
    read_content r (length bytes - length rest) (head_of r line lines) rest))

-- ---- what is promised

-- the content, without chunks
abbrev pub content_of : (framing : Framing) (wire : List ℕ) → IsPlainBody framing wire → List ℕ
content_of NoBody wire body = []
content_of (Length len) wire body = wire
content_of Framed.Chunked wire body = concat body.pieces
content_of UntilClose wire body = wire

-- what a request in plain form says
abbrev pub message_of : {text : List ℕ} → IsPlainRequest text → Message
message_of plain = record {
  method = plain.method;
  target = plain.target;
  content = content_of plain.framing plain.wire plain.body;
}

-- it takes this and leaves the rest, or it is rejected
abbrev pub TakesOrRejects : {A : Type 0} → A → List ℕ → Verdict A → Type 0
TakesOrRejects a rest verdict = (verdict ≡ Takes a rest) ⊎ (verdict ≡ Rejects)

-- it takes the names of the two fields that frame content for those, and no others
pub record IsSpelled (r : Reader) (field : Header) : Type 0 where
  pub length : is_taken_for r (codes "content-length") field ≡ is_named (codes "content-length") field
  pub coding : is_taken_for r (codes "transfer-encoding") field ≡ is_named (codes "transfer-encoding") field

-- letters, digits and dashes
abbrev pub has_no_marks : List ℕ → Bool
has_no_marks name = list_all (λ b. is_ascii_alphanumeric b || (b == 45)) name

-- it takes these messages one after another, and leaves the rest
abbrev pub TakesAll : Reader → List ℕ → List Message → List ℕ → Type 0
TakesAll r bytes [] rest = bytes ≡ rest
TakesAll r bytes (message ∷ messages) rest =
    (after : List ℕ) × (read_request r bytes ≡ Takes message after) × TakesAll r after messages rest

-- ---- what a connection wrote

-- what a request that was put says
abbrev pub message_put : Request → Message
message_put r = record { method = r.method; target = r.target; content = concat r.pieces }

-- the names of the fields that are sent with it
abbrev pub AreSpelled : Reader → Request → Type 0
AreSpelled reader r = All (IsSpelled reader) (planned_headers (plan_of r) r.headers)

-- the request, if its end was put, and else what was put of it
abbrev pub whole_if : Request → Option (List Header) → List Request
whole_if r None = []
whole_if r (Some trailers) = r ∷ []

abbrev pub part_if : Request → Option (List Header) → List ℕ
part_if r None = request_bytes r
part_if r (Some trailers) = []

abbrev pub whole_now : Now → List Request
whole_now Fresh = []
whole_now (Asked r interim) = whole_if r r.trailers
whole_now (Hears r interim response content) = whole_if r r.trailers
whole_now (Over e) = whole_if e.request e.request.trailers

abbrev pub part_now : Now → List ℕ
part_now Fresh = []
part_now (Asked r interim) = part_if r r.trailers
part_now (Hears r interim response content) = part_if r r.trailers
part_now (Over e) = part_if e.request e.request.trailers

-- the requests of a history that were put whole
abbrev pub whole_requests : Past → List Request
whole_requests past = map (λ e. e.request) past.before ++ whole_now past.now

-- These messages are the first of the requests, and this follows them where these bytes follow all.
abbrev pub AreFirstOf : List Request → List ℕ → List Message → List ℕ → Type 0
AreFirstOf requests more messages rest =
    (messages ≡ map message_put (take (length messages) requests))
    × (rest ≡ flat_map request_bytes (drop (length messages) requests) ++ more)
