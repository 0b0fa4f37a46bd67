-- The tokens of a date, one at a time.
use Rattle.std.{proofs.Common.{◌≡◌, ◌∙◌, ℕ, List, Some, None, ap}, specs.List.slice_split}
use Rattle.rfc_lists.specs.CookieDates.{cut_token, is_delimiter, with_token, with_tokens}
use Rattle.rfc_lists.{specs.declared.cookie_dates.Found.Found, proofs.SplitLemmas.{last_piece, next_piece}}

pub next_token : (text first others : List ℕ) (all found : Found) → cut_token text ≡ Some (first, others)
    → all ≡ with_tokens found (slice_split is_delimiter text)
    → all ≡ with_tokens (with_token found first) (slice_split is_delimiter others)
unfolding with_tokens
next_token text first others all found e a = a ∙ ap (with_tokens found) (next_piece is_delimiter text first others e)

pub last_token : (text : List ℕ) (all found : Found) → cut_token text ≡ None
    → all ≡ with_tokens found (slice_split is_delimiter text) → all ≡ with_token found text
unfolding with_tokens
last_token text all found e a = a ∙ ap (with_tokens found) (last_piece is_delimiter text e)
