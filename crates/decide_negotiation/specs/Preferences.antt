-- The preferences of elements for an offer, and which of them decides (RFC 9110, section 12.5.1).
use Rattle.std.specs.Prelude.{◌≡◌, ◌⊎◌, ℕ, ◌<◌, ◌≤◌, Bool, ◌&&◌, ◌||◌, ◌==◌, List, [], All, Contains, filter_map}
use Rattle.std.specs.{Prelude.{Option, Some, None, MatchOption, nat_lt, if◌then◌else◌}, List.fold}
use Rattle.{rfc_fields.specs.Scan.Member, decide_negotiation.specs.declared.preference.Preference.Preference}

-- the first is less specific than the second, or equally specific with no greater quality
abbrev pub AtMost : Preference → Preference → Type 0
AtMost a b =
    (a.names < b.names)
    ⊎ ((a.names ≡ b.names) × ((a.extent < b.extent) ⊎ ((a.extent ≡ b.extent) × (a.quality ≤ b.quality))))

-- this is one of the preferences for the offer, and all are at most this
pub record IsStrongest (said : List Preference) (p : Preference) : Type 0 where
  pub among : Contains said p
  pub greatest : All (λ (other : Preference). AtMost other p) said

-- the strongest preference, if there is any
abbrev pub IsBest : List Preference → Option Preference → Type 0
IsBest said best = MatchOption best (said ≡ []) (IsStrongest said)

-- ---- how it is found

-- x is below y, or they are equal and the rest decides
abbrev pub is_below_or : ℕ → ℕ → Bool → Bool
is_below_or x y rest = nat_lt x y || (x == y && rest)

-- the first is weaker than the second
unfoldable pub is_below : Preference → Preference → Bool
is_below a b = is_below_or a.names b.names (is_below_or a.extent b.extent (nat_lt a.quality b.quality))

-- the stronger one, after one more preference
unfoldable pub stronger : Option Preference → Preference → Option Preference
stronger None said = Some said
stronger (Some best) said = Some (if is_below best said then said else best)

-- the strongest of the preferences of a field's members
unfoldable pub strongest : (Member → Option Preference) → List Member → Option Preference
strongest says field = fold stronger None (filter_map says field)
