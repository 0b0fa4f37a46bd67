-- What stands before the first comma.
use Rattle.std.proofs.Common.{◌≡◌, ℕ, List, length, take, Option, Some, None, inl, inr, ap, arith}
use Rattle.std.{specs.Prelude.{nat_lt, not, unwrap_or, if◌then◌else◌}, specs.List.{before_first, position_or_len}}
use Rattle.std.{proofs.lemmas.Bool.{cases_lt, lt-ltb, le-ltb}, proofs.lemmas.List.Sums.prefix_len-le-length}
use Rattle.cache_fields.specs.Fields.{is_comma}

-- the place of the first comma, or the length, is where the bytes before it end
pub before_comma : (line : List ℕ) (at : Option ℕ) (end : ℕ)
    → at ≡ (if nat_lt (position_or_len is_comma line) (length line) then Some (position_or_len is_comma line) else None)
    → end ≡ unwrap_or at (length line) → take end line ≡ before_first is_comma line
before_comma line at end e f = elim (cases_lt (position_or_len is_comma line) (length line)) [
  | inl low ↦
      let found : at ≡ Some (position_or_len is_comma line) = rw (lt-ltb _ _ low) at e in
      let same : end ≡ position_or_len is_comma line = rw found at f in
      ap (λ (k : ℕ). take k line) same
  | inr high ↦
      let none : at ≡ None = rw (le-ltb _ _ high) at e in
      let same : end ≡ length line = rw none at f in
      let all : end ≡ position_or_len is_comma line =
      omega (arith, same, high, prefix_len-le-length (λ (b : ℕ). not (is_comma b)) line) in
      ap (λ (k : ℕ). take k line) all
]
