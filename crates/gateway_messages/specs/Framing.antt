-- What the fields of a message state about its content (RFC 9112, section 6).
use Rattle.std.specs.Prelude.{◌≡◌, ℕ, ◌==◌, ◌-◌, ◌<◌, ◌^◌, Bool, true, false, List, [], ◌∷◌, Option, Some, None, codes}
use Rattle.std.specs.{Prelude.{decimal, bytes_eq}, List.{last_or, list_all}, Option.option_map_or}
use Rattle.{headers.specs.{LineMap.LineMap, Lines.{Line, only_line}, Typed.HasLine}, http_header.specs.Token.lowercase}
use Rattle.rfc_fields.specs.{Directives.is_same_token, Members.field_members, Numbers.number_within, Scan.Member}
use Rattle.{rfc_fields.specs.Scan.Member.{Whole, Malformed}, gateway_messages.specs.declared.framing.Coding.Coding}
use Rattle.gateway_messages.specs.declared.framing.Framing.{Framing, TheVariants.{Unstated, Length, Chunked}}
use Rattle.gateway_messages.specs.declared.protocol.Protocol.{Protocol, TheVariants.{Http10, Http11}}
use Rattle.gateway_messages.specs.declared.rejection.Rejection.{Rejection}

-- ---- what each of the two fields says

-- the transfer coding is `chunked` alone: one field line, in any case
abbrev pub says_chunked : Line → Bool
says_chunked line = bytes_eq (lowercase line) (codes "chunked")

abbrev pub is_chunked : List Line → Bool
is_chunked lines = option_map_or says_chunked (only_line lines) false

-- the last transfer coding is `chunked`, so that the content says itself where it ends
abbrev pub ends_chunked : List Line → Bool
ends_chunked lines =
    option_map_or (is_same_token (codes "chunked")) (last_or None (field_members true lines)) false

-- the number that a member writes in digits alone, or 2^64 - 1 if it is greater
abbrev pub member_number : Member → Option ℕ
member_number (Whole text) = number_within (2 ^ 64 - 1) text
member_number Malformed = None

-- the member writes that length
abbrev pub writes_length : ℕ → Member → Bool
writes_length len member = option_map_or (λ number. number == len) (member_number member) false

abbrev pub first_number : List Member → Option ℕ
first_number [] = None
first_number (member ∷ members) = member_number member

-- There is a member, and each writes the same length, below 2^63. Many recipients can't parse a greater one (RFC 9110,
-- section 8.6).
pub record StatesLength (lines : List Line) (len : ℕ) : Type 0 where
  pub first : first_number (field_members true lines) ≡ Some len
  pub each : list_all (writes_length len) (field_members true lines) ≡ true
  pub fits : len < 2 ^ 63

-- the field is there, and its members don't agree on such a length
pub record HasInvalidLength (lines : List Line) : Type 0 where
  pub present : HasLine lines
  pub invalid : (len : ℕ) → ¬ (StatesLength lines len)

abbrev pub HasLength : List Line → Option ℕ → Type 0
HasLength lines None = lines ≡ []
HasLength lines (Some len) = StatesLength lines len

abbrev pub IsCoded : List Line → Coding → Type 0
IsCoded lines Coding.Absent = lines ≡ []
IsCoded lines Coding.Chunked = is_chunked lines ≡ true
IsCoded lines Coding.Unknown = HasLine lines × (is_chunked lines ≡ false) × (ends_chunked lines ≡ true)
IsCoded lines Coding.Endless = HasLine lines × (is_chunked lines ≡ false) × (ends_chunked lines ≡ false)

-- ---- what both say

abbrev pub lengths : LineMap → List Line
lengths message = message (codes "content-length")

abbrev pub codings : LineMap → List Line
codings message = message (codes "transfer-encoding")

-- one of the fields states how the content is delimited, or neither is there
abbrev pub States : Protocol → LineMap → Framing → Type 0
States protocol message Unstated = (lengths message ≡ []) × (codings message ≡ [])
States protocol message (Length len) = StatesLength (lengths message) len × (codings message ≡ [])
States protocol message Chunked = (lengths message ≡ []) × (is_chunked (codings message) ≡ true) × (protocol ≡ Http11)

-- why the fields are rejected: recipients are known to delimit the content of such a message in different ways
abbrev pub RejectsFraming : Protocol → LineMap → Rejection → Type 0
RejectsFraming protocol message Rejection.LengthAndCoding = HasLine (lengths message) × HasLine (codings message)
RejectsFraming protocol message Rejection.InvalidLength = HasInvalidLength (lengths message)
RejectsFraming protocol message Rejection.UnknownCoding = HasLine (codings message)
    × (is_chunked (codings message) ≡ false) × (ends_chunked (codings message) ≡ true)
RejectsFraming protocol message Rejection.LastCodingNotChunked = HasLine (codings message)
    × (is_chunked (codings message) ≡ false) × (ends_chunked (codings message) ≡ false)
RejectsFraming protocol message Rejection.CodingInHttp10 = HasLine (codings message) × (protocol ≡ Http10)
RejectsFraming protocol message rejection = ⊥

-- ---- what is forwarded

-- the field line of the two fields in the plain form, if there is one
abbrev pub length_line : Framing → Option Line
length_line Unstated = None
length_line (Length len) = Some (decimal len)
length_line Chunked = None

abbrev pub coding_line : Framing → Option Line
coding_line Unstated = None
coding_line (Length len) = None
coding_line Chunked = Some (codes "chunked")
