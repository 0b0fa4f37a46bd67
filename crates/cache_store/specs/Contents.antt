-- What a store has.
use Rattle.std.specs.Prelude.{◌≡◌, ℕ, ◌+◌, ◌-◌, ◌^◌, min, Bool, false, not, List, [], ◌∷◌, ◌++◌, map, length, filter}
use Rattle.std.{specs.Prelude.{sum_by, bytes_eq, if◌then◌else◌, string_bytes, String, Vec}, specs.List.AllByRecursion}
use Rattle.http_header.specs.{FieldValue.FieldValue, HeaderMap.pairs}
use Rattle.cache_rules.specs.declared.stored.StoredResponse.{StoredResponse}

-- a target URI with the responses that are stored under it, in the order in which they were stored
abbrev pub Target : Type 0
Target = List ℕ × List StoredResponse

-- what a store has: each target with its responses, the most recently used first
abbrev pub Contents : Type 0
Contents = List Target

module _ (target : List ℕ) where
  -- the entry is that of the target
  abbrev pub is_for : Target → Bool
  is_for entry = bytes_eq target entry.0

  -- the responses that are stored under the target
  abbrev pub responses_at : Contents → List StoredResponse
  responses_at [] = []
  responses_at (entry ∷ contents) = if is_for entry then entry.1 else responses_at contents

  -- all but the target
  abbrev pub without : Contents → Contents
  without contents = filter (λ entry. not (is_for entry)) contents

  -- the same, with the target as the most recently used
  abbrev pub used : Contents → Contents
  used contents = filter is_for contents ++ without contents

  -- nothing is stored under the target
  abbrev pub IsAbsent : Contents → Type 0
  IsAbsent = AllByRecursion (λ entry. is_for entry ≡ false)

-- the target first, if it has responses
abbrev pub with_target : List ℕ → List StoredResponse → Contents → Contents
with_target target [] contents = contents
with_target target (response ∷ responses) contents = (target, response ∷ responses) ∷ contents

-- a field line counts as the bytes of its name and its value, and 256 for what a map stores with them
abbrev pub line_size : List ℕ × FieldValue → ℕ
line_size line = length line.0 + length line.1.bytes + 256

-- How much a response that is stored under the target counts against the bound of bytes: the target, the content, the
-- fields of the request and of the response, and 1,024 for what is stored with them. At most 2^64 - 1.
unfoldable pub size_at : List ℕ → StoredResponse → ℕ
size_at target stored = min (length target + length stored.content + sum_by line_size
    (pairs stored.request) + sum_by line_size (pairs stored.response) + 1024) (2 ^ 64 - 1)

abbrev pub bytes_at : List ℕ → List StoredResponse → ℕ
bytes_at target = sum_by (size_at target)

-- how many responses are stored
abbrev pub response_count : Contents → ℕ
response_count = sum_by (λ entry. length entry.1)

-- how much they count as
abbrev pub byte_count : Contents → ℕ
byte_count = sum_by (λ entry. bytes_at entry.0 entry.1)

-- what entries of the code's map are
abbrev pub shown_entry : {Y Z : Type 0} → String Y × Vec StoredResponse Z → Target
shown_entry entry = (string_bytes entry.0, entry.1.items)

abbrev pub shown : {Y Z : Type 0} → List (String Y × Vec StoredResponse Z) → Contents
shown = map shown_entry
