-- How recipients differ in what the framing fields of a message mean to them (RFC 9112, sections 6.1, 6.3 and 11.2).
use Rattle.std.specs.Prelude.{◌≡◌, ◌||◌, ℕ, ◌<◌, ◌-◌, ◌^◌, Bool, true, false, filter, map, List, [], ◌∷◌, length}
use Rattle.std.specs.Prelude.{Option, Some, None, bytes_eq, if◌then◌else◌, ⊤, codes, decimal, nat_lt, option_map}
use Rattle.std.specs.{Prelude.option_to_list, List.list_any, Option.{option_and_then, option_map_or}}
use Rattle.{headers.specs.Lines.{Line, first_line}, gateway_messages.specs.{FieldLines.Field, Spellings.dashed}}
use Rattle.gateway_messages.specs.declared.framing.Framing.{Framing, TheVariants.{Unstated, Length, Chunked}}
use Rattle.gateway_messages.specs.Framing.{coding_line, length_line, says_chunked}
use Rattle.rfc_fields.specs.Numbers.{number_within}

-- A recipient: the names that it takes for Content-Length and for Transfer-Encoding, what the field lines of both state
-- to it about the content, unless it rejects the message, and which framings in plain form it accepts.
pub record Recipient : Type 0 where
  pub is_length : List ℕ → Bool
  pub is_coding : List ℕ → Bool
  pub delimits : List Line → List Line → Option Framing
  pub accepts : Framing → Bool

-- the field lines of the names that pass a test, in order
abbrev pub lines_where : (List ℕ → Bool) → List Field → List Line
lines_where test fields = map (λ field. field.1) (filter (λ field. test field.0) fields)

-- what the fields state to it
abbrev pub framing_by : Recipient → List Field → Option Framing
framing_by recipient fields =
    recipient.delimits (lines_where recipient.is_length fields) (lines_where recipient.is_coding fields)

-- the framing, or a rejection: what the plain form of that framing states to a recipient that knows it
abbrev pub accepted_by : Recipient → Framing → Option Framing
accepted_by recipient framing = if recipient.accepts framing then Some framing else None

-- a length that the gateway forwards
abbrev pub Fits : Framing → Type 0
Fits Unstated = ⊤
Fits (Length len) = len < 2 ^ 63
Fits Chunked = ⊤

-- It knows the two names, in which it may take an underscore or another mark for the dash, and the plain forms: a
-- length in decimal, `chunked`, or neither. It takes each for what it states, or rejects it, say for a length past its
-- limit. Nothing is said about what it makes of any other field lines.
pub record KnowsPlain (recipient : Recipient) : Type 0 where
  pub length_name : recipient.is_length (codes "content-length") ≡ true
  pub length_names : (name : List ℕ) → recipient.is_length name ≡ true
      → dashed name ≡ codes "content-length"
  pub coding_name : recipient.is_coding (codes "transfer-encoding") ≡ true
  pub coding_names : (name : List ℕ) → recipient.is_coding name ≡ true
      → dashed name ≡ codes "transfer-encoding"
  pub plain : (framing : Framing) → Fits framing
      → recipient.delimits (option_to_list (length_line framing)) (option_to_list (coding_line framing))
      ≡ accepted_by recipient framing

-- ---- recipients that are in use

-- what is taken for a dash in a name: by servers that pass fields on as variables an underscore, or each mark
pub data Spelling : Type 0 where
  Dash : Spelling
  DashOrUnderscore : Spelling
  DashOrMark : Spelling

-- which of several field lines counts
pub data Pick : Type 0 where
  First : Pick
  Last : Pick

-- what is taken for chunked: some field line that says so, the last field line, or any field line at all
pub data Codings : Type 0 where
  SomeLine : Codings
  LastLine : Codings
  AnyCoding : Codings

-- which field goes first, or that a message with both is rejected
pub data Precedence : Type 0 where
  CodingFirst : Precedence
  LengthFirst : Precedence
  RejectsBoth : Precedence

abbrev pub last_line : List Line → Option Line
last_line [] = None
last_line (line ∷ []) = Some line
last_line (line ∷ other ∷ lines) = last_line (other ∷ lines)

abbrev pub picked_by : Pick → List Line → Option Line
picked_by First lines = first_line lines
picked_by Last lines = last_line lines

abbrev pub chunked_by : Codings → List Line → Bool
chunked_by SomeLine lines = list_any says_chunked lines
chunked_by LastLine lines = option_map_or says_chunked (last_line lines) false
chunked_by AnyCoding lines = nat_lt 0 (length lines)

-- the number of a length, if there is a length, and if it can be parsed
abbrev pub delimited_by : Precedence → Option (Option ℕ) → Bool → Option Framing
delimited_by precedence None false = Some Unstated
delimited_by precedence None true = Some Chunked
delimited_by precedence (Some number) false = option_map (λ len. Length len) number
delimited_by CodingFirst (Some number) true = Some Chunked
delimited_by LengthFirst (Some number) true = option_map (λ len. Length len) number
delimited_by RejectsBoth (Some number) true = None

abbrev pub spelled_by : Spelling → List ℕ → List ℕ → List ℕ → Bool
spelled_by Dash own underscored name = bytes_eq name own
spelled_by DashOrUnderscore own underscored name = bytes_eq name own || bytes_eq name underscored
spelled_by DashOrMark own underscored name = bytes_eq (dashed name) own

-- the lengths below a limit
abbrev pub is_within : ℕ → Framing → Bool
is_within limit Unstated = true
is_within limit (Length len) = nat_lt len limit
is_within limit Chunked = true

-- a recipient that parses lengths in this way, and rejects those that it can't parse: from this limit on
abbrev pub server : Spelling → Pick → (Line → Option ℕ) → ℕ → Codings → Precedence → Recipient
server spelling pick parse limit codings precedence =
    record {
      is_length = spelled_by spelling (codes "content-length") (codes "content_length");
      is_coding = spelled_by spelling (codes "transfer-encoding") (codes "transfer_encoding");
      delimits = λ lengths coded. delimited_by precedence (option_map parse (picked_by pick lengths))
          (chunked_by codings coded);
      accepts = is_within limit;
    }

-- the number, if it is below the limit
abbrev pub number_below : ℕ → ℕ → Option ℕ
number_below limit number = if nat_lt number limit then Some number else None

-- the parser takes decimals below the limit, and perhaps more texts
abbrev pub ParsesBelow : ℕ → (Line → Option ℕ) → Type 0
ParsesBelow limit parse = (len : ℕ) → len < 2 ^ 63 → parse (decimal len) ≡ number_below limit len

-- digits alone, below the limit
abbrev pub parse_below : ℕ → Line → Option ℕ
parse_below limit line = option_and_then (number_below limit) (number_within (2 ^ 64 - 1) line)

-- Limits in use: lengths are signed numbers of 64 bits to nginx, Apache, Varnish and Go; 2^53 is where numbers of
-- JavaScript stop being exact; servers of 32 bits have signed numbers of 32.
abbrev pub limits_in_use : List ℕ
limits_in_use = 2 ^ 63 ∷ 2 ^ 53 ∷ 2 ^ 31 ∷ []
