-- Field lines in which some fields take the place of those of the same names.
use Rattle.std.specs.Prelude.{ℕ, Bool, not, List, [], ◌∷◌, ◌++◌, bytes_eq, filter, map}
use Rattle.std.specs.List.{flat_map, list_all, list_any}
use Rattle.headers.specs.LineMap as Encodings
use Rattle.gateway_messages.{specs.FieldLines.Field, specs.Forwarding.framing_names, specs.Spellings.dashed}

-- one of the fields has the name
abbrev pub has_field : List Encodings.Field → List ℕ → Bool
has_field own name = list_any (λ field. bytes_eq field.0 name) own

-- the field lines of a field, in order
abbrev pub lines_with_name : Encodings.Field → List Field
lines_with_name field = map (λ line. (field.0, line)) field.1

-- the field lines of other names, in order, and then those of the fields
abbrev pub replaced_by : List Encodings.Field → List Field → List Field
replaced_by own fields = filter (λ field. not (has_field own field.0)) fields ++ flat_map lines_with_name own

-- a field of this name frames a message, or some servers take it for one that does
abbrev pub frames : List ℕ → Bool
frames name = list_any (bytes_eq (dashed name)) framing_names

-- none of the fields does
abbrev pub frame_nothing : List Encodings.Field → Bool
frame_nothing own = list_all (λ field. not (frames field.0)) own
