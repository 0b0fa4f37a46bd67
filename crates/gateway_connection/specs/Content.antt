-- Fields and content of messages: their header map, and content by pieces.
use Rattle.std.specs.Prelude.{⊤, ◌⊎◌, ℕ, List, [], ◌∷◌, ◌++◌, length, fold, take, Any}
use Rattle.http.specs.declared.error.Error.{Error}
use Rattle.http_header.specs.{FieldName.IsFieldName, FieldValue.{FieldValue, IsFieldValue, plain_value}}
use Rattle.http_header.specs.{HeaderMap.{Entries, RefusesAppend, append}, Token.lowercase}
use Rattle.http1.specs.{Encoder.{after_piece, piece_text}, Fields.Header, declared.encode.Encoder.Encoder}
use Rattle.http.specs.declared.error.Error.TheVariants as Mapped

-- the header map of some fields: each is appended in order, its name in lower case
abbrev pub map_of : List Header → Entries FieldValue
map_of headers = fold (λ m h. append m (lowercase h.0) (plain_value h.1)) [] headers

-- no header map takes the fields: a name or a value is invalid, or there are too many
abbrev pub HasNoMap : List Header → Type 0
HasNoMap fields =
    Any (λ h. ¬ (IsFieldName h.0)) fields
    ⊎ (Any (λ h. ¬ (IsFieldValue h.1)) fields
    ⊎ ((count : ℕ) × (name : List ℕ) × RefusesAppend (map_of (take count fields)) name))

-- the fields have no map, or memory ran out
abbrev pub IsMapFailure : List Header → Error → Type 0
IsMapFailure fields Mapped.OutOfMemory = ⊤
IsMapFailure fields error = HasNoMap fields

-- the text of pieces of content, each in its frame
abbrev pub pieces_text : List (List ℕ) → Encoder → List ℕ
pieces_text [] e = []
pieces_text (piece ∷ pieces) e = piece_text e piece ++ pieces_text pieces (after_piece e (length piece))

-- the encoder after them
abbrev pub after_pieces : List (List ℕ) → Encoder → Encoder
after_pieces [] e = e
after_pieces (piece ∷ pieces) e = after_pieces pieces (after_piece e (length piece))
