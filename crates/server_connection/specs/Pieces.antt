-- The bytes that the pieces of a plan send.
use Rattle.std.specs.Prelude.{◌≡◌, ℕ, ◌+◌, ◌-◌, ◌^◌, ◌<◌, ◌≤◌, List, [], ◌∷◌, ◌++◌, length}
use Rattle.server_connection.specs.declared.piece.{OpenRange.OpenRange, Piece.{Piece, TheVariants.{Literal, Range}}}

-- how many bytes a piece sends
abbrev pub piece_len : Piece → ℕ
piece_len (Literal bytes) = length bytes
piece_len (Range extent) = extent.len

-- how many bytes the pieces send
abbrev pub total_len : List Piece → ℕ
total_len [] = 0
total_len (piece ∷ pieces) = piece_len piece + total_len pieces

-- what is open may give these bytes from this place on
abbrev pub Gives : Type 1
Gives = ℕ → List ℕ → Type 0

-- what is left of consecutive bytes after the first ones
abbrev pub rest_of : OpenRange → ℕ → OpenRange
rest_of extent count = record { start = extent.start + count; len = extent.len - count }

-- so many bytes may be taken off the range at the front
abbrev pub CanShorten : List Piece → ℕ → Type 0
CanShorten pieces count =
    (extent : OpenRange) × (after : List Piece) × (pieces ≡ Range extent ∷ after) × (count ≤ extent.len)
    × (extent.start + count < 2 ^ 64)

-- and they were
abbrev pub Shortens : List Piece → List Piece → ℕ → Type 0
Shortens old new count =
    (extent : OpenRange) × (after : List Piece) × (old ≡ Range extent ∷ after) × (count ≤ extent.len)
    × (new ≡ Range (rest_of extent count) ∷ after)

-- The piece sends these bytes first, and then what the other piece sends: bytes of its own, or bytes that what is open
-- gives where the piece begins.
abbrev pub Emits : Gives → Piece → List ℕ → Piece → Type 0
Emits gives (Literal bytes) sent (Literal left) = bytes ≡ sent ++ left
Emits gives (Literal bytes) sent (Range left) = ⊥
Emits gives (Range extent) sent (Literal left) = ⊥
Emits gives (Range extent) sent (Range left) =
    gives extent.start sent × (left.start ≡ extent.start + length sent) × (extent.len ≡ length sent + left.len)

-- The pieces send these bytes first, in order, and then what the pieces that are left send.
pub data Advances (gives : Gives) : List Piece → List ℕ → List Piece → Type 0 where
  stays : (pieces : List Piece) → Advances gives pieces [] pieces
  emits : (piece after : Piece) (pieces left : List Piece) (sent front : List ℕ) → Emits gives piece sent after →
      Advances gives (after ∷ pieces) front left → Advances gives (piece ∷ pieces) (sent ++ front) left
  skips : (piece : Piece) (pieces left : List Piece) (front : List ℕ) → piece_len piece ≡ 0 → Advances gives pieces
      front left → Advances gives (piece ∷ pieces) front left

-- the pieces send exactly these bytes
abbrev pub AreSent : Gives → List Piece → List ℕ → Type 0
AreSent gives pieces content = Advances gives pieces content []
