-- The numbers of stored responses: which response each of them names.
use Rattle.std.specs.Prelude.{◌+◌, ◌<◌, ◌==◌, ◌≡◌, ◌≤◌, ◌⊎◌, Bool, count_by, find, List, None, Option, Some, sum_by, ℕ}
use Rattle.{std.specs.Prelude.⊤, cache_rules.specs.declared.stored.StoredResponse.StoredResponse}
use Rattle.cache_store.specs.Contents.{Contents}

-- the response has the number
abbrev pub has_number : ℕ → StoredResponse → Bool
has_number number stored = stored.number == number

-- the response with the number, if one of these has it
abbrev pub numbered : ℕ → List StoredResponse → Option StoredResponse
numbered number = find (has_number number)

-- how many of these responses have the number
abbrev pub times_in : ℕ → List StoredResponse → ℕ
times_in number = count_by (has_number number)

-- how many stored responses have the number
abbrev pub times_used : ℕ → Contents → ℕ
times_used number = sum_by (λ entry. times_in number entry.1)

-- no two stored responses have one number, and each number is below the next one, which isn't 0
pub record AreNumbered (next : ℕ) (contents : Contents) : Type 0 where
  pub some : 0 < next
  pub once : (number : ℕ) → times_used number contents ≤ 1
  pub below : (number : ℕ) → next ≤ number → times_used number contents ≡ 0

-- the same with these responses beside the stored ones
pub record AreNumberedWith (next : ℕ) (responses : List StoredResponse) (contents : Contents) : Type 0 where
  pub once : (number : ℕ) → times_in number responses + times_used number contents ≤ 1
  pub below : (number : ℕ) → next ≤ number → times_in number responses + times_used number contents ≡ 0

-- the response with another number
abbrev pub renumbered : ℕ → StoredResponse → StoredResponse
renumbered number stored = record stored { number = number }

-- what becomes of a stored response: the same response, or one with this number
abbrev pub IsSameOrNumbered : StoredResponse → ℕ → Option StoredResponse → Type 0
IsSameOrNumbered old number None = ⊤
IsSameOrNumbered old number (Some new) = (new ≡ old) ⊎ (new.number ≡ number)

-- the response, if there is one, has the number
abbrev pub IsNumbered : ℕ → Option StoredResponse → Type 0
IsNumbered number None = ⊤
IsNumbered number (Some new) = new.number ≡ number

-- Of the numbers of the new list, those from `first` on and before `last` are new, each once. The old list has all
-- others as often at least.
pub record AreRenumbered (first last : ℕ) (old new : List StoredResponse) : Type 0 where
  pub before : (number : ℕ) → number < first → times_in number new ≤ times_in number old
  pub given : (number : ℕ) → first ≤ number → number < last → times_in number new ≤ times_in number old + 1
  pub after : (number : ℕ) → last ≤ number → times_in number new ≤ times_in number old
