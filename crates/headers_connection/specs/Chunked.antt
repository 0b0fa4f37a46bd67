-- Whether a list of transfer codings ends in `chunked` (RFC 9112, section 6.1).
use Rattle.std.{specs.Prelude.{◌≡◌, ℕ, ◌==◌, Bool, List, None, codes, IsSomeAnd}, specs.List.{after_last, last_or}}
use Rattle.headers_syntax.specs.Text.{trim}
use Rattle.headers_items.specs.Places.{comma}

abbrev pub is_comma : ℕ → Bool
is_comma b = b == comma

-- The list isn't empty, and it ends in `chunked`: what follows the last comma of its last item, or the whole item if it
-- has none, is that word when trimmed.
abbrev pub IsChunked : List (List ℕ) → Type 0
IsChunked items = IsSomeAnd (last_or None items) (λ item. trim (after_last is_comma item) ≡ codes "chunked")
