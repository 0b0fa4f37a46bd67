-- What is sent of bytes in memory.
use Rattle.std.proofs.Common.{◌≡◌, ℕ, ◌+◌, List, [], ◌∷◌, ◌++◌, length, take, drop, refl, sym, ap, ◌∙◌, append_assoc}
use Rattle.std.proofs.{Common.{append-nil, arith}, lemmas.List.{drop-drop, drop-take, take-append-drop, take-take}}
use Rattle.{std.proofs.lemmas.List.take_all, server_connection.specs.Pieces.{Advances, Advances.{stays, emits, skips}}}
use Rattle.server_connection.specs.{Pieces.{AreSent, Emits, piece_len}, declared.piece.Piece.Piece}
use Rattle.server_connection.specs.declared.piece.Piece.TheVariants.{Literal, Range}
use Rattle.server_service.specs.{File.gives_at, Parts.{bytes_of, piece_bytes}}
use Rattle.server_files.specs.declared.kept.Kept.{Kept}
use Rattle.server_service.specs.declared.source.Source.TheVariants.{Kept as InMemory}

-- the first bytes, and those after them
take_plus : (n m : ℕ) (bytes : List ℕ) → take (n + m) bytes ≡ take n bytes ++ take m (drop n bytes)
take_plus n m bytes = sym (take-append-drop n (take (n + m) bytes))
    ∙ ap (λ (l : List ℕ). l ++ drop n (take (n + m) bytes)) (take-take n (n + m) bytes (omega arith))
    ∙ ap (λ (l : List ℕ). take n bytes ++ l) (drop-take n m bytes)

no_bytes : (bytes : List ℕ) → length bytes ≡ 0 → bytes ≡ []
no_bytes [] e = refl
no_bytes (byte ∷ bytes) e = absurd (omega (arith, e))

module _ (kept : Kept) where
  emitted : (piece after : Piece) (sent : List ℕ) → Emits (gives_at (InMemory kept)) piece sent after
      → piece_bytes kept.content piece ≡ sent ++ piece_bytes kept.content after
  emitted (Literal bytes) (Literal left) sent step = step
  emitted (Literal bytes) (Range left) sent step = absurd step
  emitted (Range extent) (Literal left) sent step = absurd step
  emitted (Range extent) (Range left) sent step =
      let count = length sent in
      let rest = drop extent.start kept.content in
      ap (λ (n : ℕ). take n rest) step.2
      ∙ take_plus count left.len rest
      ∙ ap (λ (l : List ℕ). l ++ take left.len (drop count rest)) (sym step.0)
      ∙ ap (λ (l : List ℕ). sent ++ take left.len l)
      (drop-drop count extent.start kept.content ∙ ap (λ (n : ℕ). drop n kept.content) (sym step.1))

  nothing : (piece : Piece) → piece_len piece ≡ 0 → piece_bytes kept.content piece ≡ []
  nothing (Literal bytes) none = no_bytes bytes none
  nothing (Range extent) none = ap (λ (n : ℕ). take n (drop extent.start kept.content)) none

  pub sent_bytes : (pieces : List Piece) (sent : List ℕ) → AreSent (gives_at (InMemory kept)) pieces sent
      → sent ≡ bytes_of kept.content pieces
  sent_bytes pieces sent h = advanced h refl
    where
      advanced : {pieces left : List Piece} {sent : List ℕ} → Advances (gives_at (InMemory kept)) pieces sent left
          → left ≡ [] → sent ≡ bytes_of kept.content pieces
      advanced (stays pieces) none = sym (ap (bytes_of kept.content) none)
      advanced (emits piece after pieces left sent front step rest) none =
          ap (λ (l : List ℕ). sent ++ l) (advanced rest none)
          ∙ sym (append_assoc sent (piece_bytes kept.content after) (bytes_of kept.content pieces))
          ∙ ap (λ (l : List ℕ). l ++ bytes_of kept.content pieces) (sym (emitted piece after sent step))
      advanced (skips piece pieces left front empty rest) none = advanced rest none
          ∙ ap (λ (l : List ℕ). l ++ bytes_of kept.content pieces) (sym (nothing piece empty))

  -- all of it is sent, where one range is all of it
  pub sent_whole : (sent : List ℕ)
      → AreSent (gives_at (InMemory kept)) (Range (record { start = 0; len = length kept.content }) ∷ []) sent
      → sent ≡ kept.content
  sent_whole sent h = sent_bytes (Range (record { start = 0; len = length kept.content }) ∷ []) sent h
      ∙ append-nil (take (length kept.content) kept.content)
      ∙ take_all (length kept.content) kept.content (omega arith)
