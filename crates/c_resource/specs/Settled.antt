-- What is left once fields are set in their order.
use Rattle.std.{specs.Prelude.{ℕ, Bool, List, [], ◌∷◌, bytes_eq, if◌then◌else◌}, specs.List.list_any}
use Rattle.headers.specs.LineMap.{Field}

-- one of the fields has this name
abbrev pub is_set_by : List ℕ → List Field → Bool
is_set_by name fields = list_any (λ field. bytes_eq field.0 name) fields

-- the fields after which none has the same name
abbrev pub settled : List Field → List Field
settled [] = []
settled (field ∷ fields) = if is_set_by field.0 fields then settled fields else field ∷ settled fields
