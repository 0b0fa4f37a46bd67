-- The parts of a file that a response carries.
use Rattle.std.specs.Prelude.{ℕ, ◌+◌, ◌-◌, List, flat_map, Some, All, ⊤, take, drop, slice_range}
use Rattle.{memchr.specs.Find.OccursAt, headers.specs.ContentBytes.ContentBytes}
use Rattle.server_connection.specs.declared.piece.{OpenRange.OpenRange, Piece.{Piece, TheVariants.{Literal, Range}}}
use Rattle.decide_preconditions.specs.{Parts.IsPartOf, declared.{part.Part.Part, plan.Plan.Plan}}
use Rattle.decide_preconditions.specs.declared.plan.Plan.TheVariants.{NotModified, Failed, Full, Single, Multiple}
use Rattle.decide_preconditions.specs.declared.plan.Plan.TheVariants.{Unsatisfiable}
use Rattle.server_service.specs.declared.source.Source.{Source, TheVariants.{Kept, Opened}}

-- the bytes of one part of a content
abbrev pub part_bytes : List ℕ → Part → List ℕ
part_bytes content part = slice_range content part.first (part.last + 1)

-- where one part stands
abbrev pub part_extent : Part → OpenRange
part_extent part = record { start = part.first; len = part.last + 1 - part.first }

-- what Content-Range says of one part of a content of this length
abbrev pub part_range : ℕ → Part → ContentBytes
part_range len part = record { range = Some (part.first, part.last); length = Some len }

-- the bytes occur somewhere in the content
abbrev pub Occurs : List ℕ → List ℕ → Type 0
Occurs bytes content = (k : ℕ) × OccursAt content bytes k

-- the bytes are known to occur in a file; an open one isn't searched
abbrev pub IsKnownToHold : Source → List ℕ → Type 0
IsKnownToHold (Kept kept) bytes = Occurs bytes kept.content
IsKnownToHold (Opened opened) bytes = ⊥

-- the parts of the plan lie in a content of this length
abbrev pub Fits : ℕ → Plan → Type 0
Fits len Full = ⊤
Fits len (Single part) = IsPartOf len part
Fits len (Multiple parts) = All (IsPartOf len) parts.items
Fits len NotModified = ⊤
Fits len Failed = ⊤
Fits len Unsatisfiable = ⊤

-- the bytes of a piece, where its ranges are of this content
abbrev pub piece_bytes : List ℕ → Piece → List ℕ
piece_bytes content (Literal bytes) = bytes
piece_bytes content (Range extent) = take extent.len (drop extent.start content)

-- the bytes of the pieces
abbrev pub bytes_of : List ℕ → List Piece → List ℕ
bytes_of content pieces = flat_map (piece_bytes content) pieces
