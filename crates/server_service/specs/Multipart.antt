-- Bodies of several parts (RFC 9110, section 14.6).
use Rattle.std.{specs.Prelude.{ℕ, List, [], ◌∷◌, ◌++◌, codes}, specs.List.flat_map}
use Rattle.headers.{specs.ContentBytes.content_text, specs.Lines.Line}
use Rattle.server_connection.{specs.declared.piece.Piece.Piece, specs.declared.piece.Piece.TheVariants.{Literal, Range}}
use Rattle.decide_preconditions.specs.declared.part.Part.{Part}
use Rattle.server_service.{specs.File.len_of, specs.Parts.{part_extent, part_range}, specs.declared.file.File.File}

-- one header line
abbrev pub header_line : List ℕ → Line → List ℕ
header_line name line = name ++ codes ": " ++ line ++ codes "\r\n"

-- the lines of a header
abbrev pub header_text : List ℕ → List Line → List ℕ
header_text name lines = flat_map (header_line name) lines

-- the boundary before a part
unfoldable pub opening : List ℕ → List ℕ
opening boundary = codes "--" ++ boundary ++ codes "\r\n"

-- a part's header lines: its media type, and what it is of the whole
unfoldable pub part_fields : File → Part → List ℕ
part_fields file part =
    header_line (codes "content-type") file.media_type.bytes
    ++ header_line (codes "content-range") (content_text (part_range (len_of file.source) part))

-- what comes before a part's bytes: the boundary, the header lines, and an empty line
unfoldable pub part_head : List ℕ → File → Part → List ℕ
part_head boundary file part = opening boundary ++ part_fields file part ++ codes "\r\n"

-- one part: what comes before its bytes, its bytes, and a line's end
abbrev pub part_pieces : List ℕ → File → Part → List Piece
part_pieces boundary file part =
    Literal (part_head boundary file part) ∷ Range (part_extent part) ∷ Literal (codes "\r\n") ∷ []

-- what follows the last part
unfoldable pub closing : List ℕ → List ℕ
closing boundary = codes "--" ++ boundary ++ codes "--\r\n"

-- the parts, and the end
abbrev pub multipart : List ℕ → File → List Part → List Piece
multipart boundary file parts = flat_map (part_pieces boundary file) parts ++ Literal (closing boundary) ∷ []
