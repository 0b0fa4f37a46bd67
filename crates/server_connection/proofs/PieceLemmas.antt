-- The bytes that pieces send, one step after another.
use Rattle.std.proofs.Common.{◌≡◌, ℕ, ◌+◌, ◌-◌, ◌≤◌, List, [], ◌∷◌, ◌++◌, length, refl, sym, ap, ◌∙◌, subst, arith}
use Rattle.std.proofs.Common.{append_assoc, append-nil, length-append}
use Rattle.server_connection.specs.declared.piece.{OpenRange.OpenRange, Piece.{Piece, TheVariants.{Literal, Range}}}
use Rattle.server_connection.specs.Pieces.{Gives, Emits, Advances, Advances.{stays, emits, skips}, piece_len, total_len}
use Rattle.server_connection.specs.Pieces.{rest_of, Shortens}

pub total_len-push : (pieces : List Piece) (piece : Piece) → total_len (pieces ++ piece ∷ []) ≡ total_len pieces +
    piece_len piece
total_len-push [] piece = omega arith
total_len-push (p ∷ pieces) piece = let rest = total_len-push pieces piece in omega (arith, rest)

module _ (gives : Gives) where
  -- one way after another
  pub Advances-then : {pieces left last : List Piece} {front more : List ℕ} → Advances gives pieces front left
      → Advances gives left more last → Advances gives pieces (front ++ more) last
  Advances-then (stays pieces) next = next
  Advances-then {last = last} {more = more} (emits piece after pieces left sent front step rest) next =
      subst (λ (t : List ℕ). Advances gives (piece ∷ pieces) t last) (sym (append_assoc sent front more))
      (emits piece after pieces last sent (front ++ more) step (Advances-then rest next))
  Advances-then {last = last} {more = more} (skips piece pieces left front none rest) next =
      skips piece pieces last (front ++ more) none (Advances-then rest next)

  -- what pieces send is as long as they say
  pub Advances-length : {pieces left : List Piece} {front : List ℕ} → Advances gives pieces front left
      → total_len pieces ≡ length front + total_len left
  Advances-length (stays pieces) = omega arith
  Advances-length (emits piece after pieces left sent front step rest) =
      let more = Advances-length rest in
      let here = emitted piece after sent step in
      omega (arith, more, here, length-append sent front)
    where
      emitted : (piece after : Piece) (sent : List ℕ) → Emits gives piece sent after
          → piece_len piece ≡ length sent + piece_len after
      emitted (Literal bytes) (Literal left) sent step = ap length step ∙ length-append sent left
      emitted (Range extent) (Range left) sent step = step.2
      emitted piece after sent step = absurd step
  Advances-length (skips piece pieces left front none rest) =
      let more = Advances-length rest in omega (arith, more, none)

  -- a literal is sent whole
  pub sends_literal : (bytes : List ℕ) (pieces : List Piece) → Advances gives (Literal bytes ∷ pieces) bytes pieces
  sends_literal bytes pieces = subst (λ (t : List ℕ). Advances gives (Literal bytes ∷ pieces) t pieces)
      (append-nil bytes) (emits (Literal bytes) (Literal []) pieces pieces bytes [] (sym (append-nil bytes))
      (skips (Literal []) pieces pieces [] refl (stays pieces)))

  -- the first bytes of a range are sent
  pub sends_range : (extent : OpenRange) (bytes : List ℕ) (pieces : List Piece) → length bytes ≤ extent.len
      → gives extent.start bytes
      → Advances gives (Range extent ∷ pieces) bytes (Range (rest_of extent (length bytes)) ∷ pieces)
  sends_range extent bytes pieces fits given =
      let rest = Range (rest_of extent (length bytes)) in
      let whole : extent.len ≡ length bytes + (extent.len - length bytes) = omega (arith, fits) in
      subst (λ (t : List ℕ). Advances gives (Range extent ∷ pieces) t (rest ∷ pieces)) (append-nil bytes)
      (emits (Range extent) rest pieces (rest ∷ pieces) bytes [] (given, refl, whole) (stays (rest ∷ pieces)))

  -- an empty range is skipped
  pub skips_range : (extent : OpenRange) (pieces : List Piece) → extent.len ≡ 0 → Advances gives (Range extent ∷ pieces)
      [] pieces
  skips_range extent pieces none = skips (Range extent) pieces pieces [] none (stays pieces)

  -- the same at the front of a list
  pub sends_range_at : {old after : List Piece} {extent : OpenRange} (bytes : List ℕ) → old ≡ Range extent ∷ after
      → length bytes ≤ extent.len → gives extent.start bytes
      → Advances gives old bytes (Range (rest_of extent (length bytes)) ∷ after)
  sends_range_at {after = after} {extent = extent} bytes front fits given =
      rw front (sends_range extent bytes after fits given)

  -- and taken off it
  pub sends_short : {old new after : List Piece} {extent : OpenRange} (bytes : List ℕ) → old ≡ Range extent ∷ after
      → Shortens old new (length bytes) → gives extent.start bytes → Advances gives old bytes new
  sends_short {extent = extent} bytes front short given =
      let both : Range extent ∷ _ ≡ Range short.0 ∷ short.1 = sym front ∙ short.2 in
      let same : extent ≡ short.0 = cc in
      rw short.4 (sends_range_at bytes short.2 short.3 (subst (λ (e : OpenRange). gives e.start bytes) same given))
