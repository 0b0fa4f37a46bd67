-- How often a request may still be forwarded (RFC 9110, section 7.6.2).
use Rattle.std.specs.Prelude.{◌≡◌, ℕ, ◌-◌, ◌^◌, Bool, ◌||◌, List, [], Option, Some, None, IsTrue, bytes_eq, codes}
use Rattle.{std.specs.Option.option_and_then, headers.specs.{LineMap.LineMap, Lines.{Line, only_line}, Typed.HasLine}}
use Rattle.rfc_fields.specs.Numbers.{number_within}

-- Max-Forwards counts for these methods
abbrev pub counts_hops : List ℕ → Bool
counts_hops method = bytes_eq method (codes "OPTIONS") || bytes_eq method (codes "TRACE")

-- the number of the only field line, or 2^64 - 1 if it is greater
abbrev pub hops_in : List Line → Option ℕ
hops_in lines = option_and_then (number_within (2 ^ 64 - 1)) (only_line lines)

-- the request has this limit, or none: Max-Forwards doesn't count, or is absent
abbrev pub HasHops : List ℕ → LineMap → Option ℕ → Type 0
HasHops method fields None = IsTrue (counts_hops method) → fields (codes "max-forwards") ≡ []
HasHops method fields (Some hops) =
    IsTrue (counts_hops method) × (hops_in (fields (codes "max-forwards")) ≡ Some hops)

-- Max-Forwards counts, and isn't one number
pub record HasInvalidHops (method : List ℕ) (fields : LineMap) : Type 0 where
  pub counts : IsTrue (counts_hops method)
  pub present : HasLine (fields (codes "max-forwards"))
  pub invalid : hops_in (fields (codes "max-forwards")) ≡ None
