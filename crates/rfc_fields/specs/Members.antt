-- The members of a field, and the state of an iterator over them as a contract sees it.
use Rattle.std.specs.Prelude.{ℕ, Bool, true, false, List, [], ◌∷◌, ◌++◌, length, map, filter, not, ◌==◌, Result, Ok}
use Rattle.std.specs.{Prelude.{Err, if◌then◌else◌}, List.flat_map}
use Rattle.http_header.specs.FieldValue.{FieldValue}
use Rattle.{headers_syntax.specs.{Lines.{Line, lines_of}, Text.trim}, rfc_fields.specs.Grammar.{comma, space}}
use Rattle.rfc_fields.specs.{Scan.{Member, closes, pieces, Member.{Whole, Malformed}}, declared.scan.State.State}
use denote.Ref.{Bor}

-- the member without the blanks around it
abbrev pub trimmed : Member → Member
trimmed (Whole s) = Whole (trim s)
trimmed Malformed = Malformed

-- the piece isn't empty
abbrev pub is_member : Member → Bool
is_member (Whole s) = not (length s == 0)
is_member Malformed = true

abbrev pub is_whole : Member → Bool
is_whole (Whole s) = true
is_whole Malformed = false

-- each quote of a whole member has its end in it
abbrev pub closes_member : Bool → Member → Bool
closes_member pairs (Whole s) = closes pairs State.Outside s
closes_member pairs Malformed = true

-- the trimmed pieces that aren't empty (RFC 9110, section 5.6.1)
abbrev pub members_of : List Member → List Member
members_of ps = filter is_member (map trimmed ps)

-- the members of a field line; if `pairs` is false, of a line of entity tags without quoted-pairs (section 8.8.3)
abbrev pub members : Bool → Line → List Member
members pairs line = members_of (pieces comma pairs State.Outside line)

-- the members of all lines of a field, each line parsed by itself
abbrev pub field_members : Bool → List Line → List Member
field_members pairs lines = flat_map (members pairs) lines

-- each quote of the line has its end
abbrev pub is_well_formed : Line → Bool
is_well_formed line = closes true State.Outside line

-- the lines as one, joined by a comma and a space (section 5.3)
abbrev pub combined : List Line → Line
combined [] = []
combined (line ∷ []) = line
combined (line ∷ other ∷ lines) = line ++ comma ∷ space ∷ combined (other ∷ lines)

-- the member of an iterator's item
abbrev pub member_of : {E : Type 0} → Result (Bor (List ℕ)) E → Member
member_of (Ok text) = Whole text.now
member_of (Err _) = Malformed

-- the separator, whether there are quoted-pairs, what is left of the line, and whether its last piece was yielded
pub record MembersState : Type 0 where
  pub separator : ℕ
  pub pairs : Bool
  pub rest : List ℕ
  pub is_done : Bool

abbrev pub pieces_left : MembersState → List Member
pieces_left s = if s.is_done then [] else pieces s.separator s.pairs State.Outside s.rest

abbrev pub members_left : MembersState → List Member
members_left s = members_of (pieces_left s)

-- the iterator over the current line, and the values that follow
pub record FieldState : Type 0 where
  pub line : MembersState
  pub values : List FieldValue

abbrev pub field_left : FieldState → List Member
field_left s = members_left s.line ++ field_members s.line.pairs (lines_of s.values)
