-- Parts in order of their first positions; two with at most `gap` positions between them are joined.
use Rattle.std.specs.Prelude.{ℕ, ◌+◌, nat_le, max, List, [], ◌∷◌, if◌then◌else◌}
use Rattle.decide_preconditions.specs.declared.part.Part.{Part}

-- one part in place of two, of which the next doesn't begin first: it has their positions and those between them
abbrev pub joined : Part → Part → Part
joined part next = record { first = part.first; last = max part.last next.last }

-- the part grows as long as the next one begins inside it or close after it
abbrev pub merged_from : ℕ → Part → List Part → List Part
merged_from gap part [] = part ∷ []
merged_from gap part (next ∷ rest) =
    if nat_le next.first (part.last + gap + 1)
    then merged_from gap (joined part next) rest
    else part ∷ merged_from gap next rest

abbrev pub merged : ℕ → List Part → List Part
merged gap [] = []
merged gap (part ∷ rest) = merged_from gap part rest
