-- A text that is cut at each place of a byte, one at a time.
use Rattle.std.proofs.Common.{append-nil, ◌≡◌, ◌∙◌, inl, inr, ℕ, ◌<◌, ◌≤◌, ◌==◌, Bool, List, [], ◌∷◌, ◌++◌, length, ◌+◌}
use Rattle.std.proofs.Common.{ap, drop, take, Option, Some, None, flat_map, option_map, position, arith}
use Rattle.std.proofs.lemmas.{Bool.{cases_Bool, cases_lt}, List.Splits.{slice_split_first, slice_split_none}}
use Rattle.std.{proofs.lemmas.List.Sums.fails_before_first, specs.List.{position_or_len, slice_split}}
use Rattle.{std.specs.Option.option_map_or, rfc_fields.specs.Cuts.cut}

abbrev pub is_at : ℕ → ℕ → Bool
is_at c b = b == c

-- a text cut at the first byte that passes
abbrev pub cut_by : (ℕ → Bool) → List ℕ → Option (List ℕ × List ℕ)
cut_by p text = option_map (λ k. (take k text, drop (k + 1) text)) (position p text)

module _ (p : ℕ → Bool) (text : List ℕ) where
  abbrev Cuts : Type 0
  Cuts = slice_split p text
      ≡ option_map_or (λ (sides : List ℕ × List ℕ). sides.0 ∷ slice_split p sides.1) (cut_by p text) (text ∷ [])

  inside : position_or_len p text < length text → Cuts
  inside h = let first = slice_split_first p text 0 h in grind (arith, cases_Bool)

  outside : length text ≤ position_or_len p text → Cuts
  outside h =
      let whole = slice_split_none p text (λ k d l. fails_before_first p text k d (omega (arith, h, l))) in
      grind (arith, cases_Bool)

  all_cuts : Cuts
  all_cuts = elim (cases_lt (position_or_len p text) (length text)) [ inl h ↦ inside h | inr h ↦ outside h ]

  pub next_piece : (first others : List ℕ) → cut_by p text ≡ Some (first, others)
      → slice_split p text ≡ first ∷ slice_split p others
  next_piece first others e = rw e at all_cuts

  pub last_piece : cut_by p text ≡ None → slice_split p text ≡ text ∷ []
  last_piece e = rw e at all_cuts

-- the values of a function at each piece
module _ (f : List ℕ → List ℕ) (c : ℕ) (text : List ℕ) where
  pub next_line : (first others : List ℕ) → cut c text ≡ Some (first, others)
      → flat_map f (slice_split (is_at c) text) ≡ f first ++ flat_map f (slice_split (is_at c) others)
  next_line first others e = ap (flat_map f) (next_piece (is_at c) text first others e)

  pub last_line : cut c text ≡ None → flat_map f (slice_split (is_at c) text) ≡ f text
  last_line e = ap (flat_map f) (last_piece (is_at c) text e) ∙ append-nil _
