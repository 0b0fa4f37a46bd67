-- Where the text between two quotes ends, and where a list is cut, byte by byte.
use Rattle.std.specs.Prelude.{◌≡◌, ℕ, ◌+◌, Bool, true, false, ◌&&◌, ◌==◌, List, [], ◌∷◌, ◌<◌, length, take, drop}
use Rattle.std.specs.Prelude.{if◌then◌else◌}
use Rattle.rfc_fields.specs.{Grammar.{quote, backslash}, declared.scan.State.State}
use Rattle.rfc_fields.specs.declared.scan.{State.TheVariants.{Outside, Inside, Escaped}, End.End}

-- what a list has between two separators: a whole element, or, after its last separator, a text whose last quote has
-- no end
pub data Member : Type 0 where
  Whole : List ℕ → Member
  Malformed : Member

abbrev pub is_outside : State → Bool
is_outside Outside = true
is_outside Inside = false
is_outside Escaped = false

-- the state after a byte; a backslash begins a quoted-pair only where there are some
abbrev pub state_after : Bool → State → ℕ → State
state_after pairs Outside b = if b == quote then Inside else Outside
state_after pairs Inside b = if b == quote then Outside else (if pairs && b == backslash then Escaped else Inside)
state_after pairs Escaped b = Inside

-- the separator outside quotes
abbrev pub is_cut : ℕ → State → ℕ → Bool
is_cut separator state b = b == separator && is_outside state

-- scanned from that state on, each quote has its end
unfoldable pub closes : Bool → State → List ℕ → Bool
closes pairs state [] = is_outside state
closes pairs state (b ∷ s) = closes pairs (state_after pairs state b) s

-- the member that the end of a text makes of what is before it
abbrev pub last_member : State → Member
last_member state = if is_outside state then Whole [] else Malformed

-- a byte before an element is a byte of it
abbrev pub with_byte : ℕ → Member → Member
with_byte b (Whole s) = Whole (b ∷ s)
with_byte b Malformed = Malformed

-- a byte before the first of some members
unfoldable pub push : ℕ → List Member → List Member
push b [] = []
push b (m ∷ ms) = with_byte b m ∷ ms

-- s, scanned from that state on, cut at each separator outside quotes; the separators are left out
unfoldable pub pieces : ℕ → Bool → State → List ℕ → List Member
pieces separator pairs state [] = last_member state ∷ []
pieces separator pairs state (b ∷ s) =
    if is_cut separator state b then Whole [] ∷ pieces separator pairs Outside s
    else push b (pieces separator pairs (state_after pairs state b) s)

-- how an element ends if its text ends in that state
abbrev pub end_of : State → End
end_of state = if is_outside state then End.Closed else End.Open

-- where the first element of s ends, if s begins at place i in that state
unfoldable pub end_from : ℕ → Bool → State → ℕ → List ℕ → End
end_from separator pairs state i [] = end_of state
end_from separator pairs state i (b ∷ s) =
    if is_cut separator state b then End.Cut i else end_from separator pairs (state_after pairs state b) (i + 1) s

-- the first separator of s that cuts is at place k
pub record SplitsAt (separator : ℕ) (pairs : Bool) (s : List ℕ) (k : ℕ) : Type 0 where
  pub within : k < length s
  pub split : pieces separator pairs Outside s ≡ Whole (take k s) ∷ pieces separator pairs Outside (drop (k + 1) s)

-- where the first element of s ends
abbrev pub FindsEnd : ℕ → Bool → List ℕ → End → Type 0
FindsEnd separator pairs s (End.Cut k) = SplitsAt separator pairs s k
FindsEnd separator pairs s End.Closed = pieces separator pairs Outside s ≡ Whole s ∷ []
FindsEnd separator pairs s End.Open = pieces separator pairs Outside s ≡ Malformed ∷ []
