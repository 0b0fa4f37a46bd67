-- Notes, what changes them, and their texts.
use Rattle.std.specs.Prelude.{◌≡◌, ℕ, ◌+◌, List, [], ◌∷◌, ◌++◌, Option, Some, None, codes, decimal, flat_map}
use Rattle.std.{specs.BTreeMap.{Updates, get, keys}, specs.Ordering.nat_cmp}
use Rattle.example_notes.{specs.declared.notes.Note.Note, specs.declared.notes.Notes.Notes}

-- ---- notes

abbrev pub note_at : Notes → ℕ → Option Note
note_at notes id = get nat_cmp notes.by_id id

-- the note of this number is now this one, or none, every other is as it was, and the change is counted
pub record Changes (before : Notes) (id : ℕ) (note : Option Note) (after : Notes) : Type 0 where
  pub notes : Updates nat_cmp before.by_id after.by_id id note
  pub changes : after.changes ≡ before.changes + 1
  pub series : after.series ≡ before.series

-- the text is now that of the note of this number, and the number of the change is its version
abbrev pub Writes : Notes → ℕ → List ℕ → Notes → Type 0
Writes before id text after =
    Changes before id (Some (record { text = text; version = before.changes + 1; series = before.series })) after

abbrev pub Removes : Notes → ℕ → Notes → Type 0
Removes before id after = Changes before id None after

-- ---- texts

abbrev pub path_of : ℕ → List ℕ
path_of id = codes "/notes/" ++ decimal id

-- Two connections have two series, so no two texts have one tag (RFC 9110, section 8.8.1).
abbrev pub tag_of : (series version : ℕ) → List ℕ
tag_of series version = codes "\"" ++ decimal series ++ codes "-" ++ decimal version ++ codes "\""

-- the tag of what the next change writes
abbrev pub next_tag : Notes → List ℕ
next_tag notes = tag_of notes.series (notes.changes + 1)

-- a path as a JSON string
abbrev pub item_of : ℕ → List ℕ
item_of id = codes "\"/notes/" ++ decimal id ++ codes "\""

-- further items, each after a comma
abbrev pub further_of : List ℕ → List ℕ
further_of ids = flat_map (λ id. codes "," ++ item_of id) ids

abbrev pub items_of : List ℕ → List ℕ
items_of [] = []
items_of (id ∷ ids) = item_of id ++ further_of ids

-- the collection: a JSON list of the paths of the notes, by their numbers
abbrev pub list_text : Notes → List ℕ
list_text notes = codes "[" ++ items_of (keys notes.by_id) ++ codes "]"
