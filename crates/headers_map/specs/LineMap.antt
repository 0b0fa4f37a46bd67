-- A map gives each name a list of field lines, and steps change it.
use Rattle.std.specs.Prelude.{◌≢◌, ℕ, Bool, ◌&&◌, List, [], ◌∷◌, length, reverse, Option, if◌then◌else◌, bytes_eq}
use Rattle.std.{specs.Prelude.{nat_lt, find, map}, specs.Option.option_map_or}
use Rattle.http_header.{specs.FieldValue.FieldValue, specs.HeaderMap.{Entries, get_all}}
use Rattle.headers_syntax.specs.Lines.{Line, lines_of}
use Rattle.headers_map.{specs.declared.encoded.Encoded.Encoded, specs.declared.steps.Step.Step}
use Rattle.headers_map.specs.declared.steps.Step.TheVariants.{Put, Remove}

-- the lines under each name
abbrev pub LineMap : Type 0
LineMap = List ℕ → List Line

-- the lines that a header map has under each name
abbrev pub lines_at : Entries FieldValue → LineMap
lines_at m name = lines_of (get_all m name)

-- the map with the lines at the name, or the map itself if there is no line
abbrev pub put : LineMap → List ℕ → List Line → LineMap
put m name [] other = m other
put m name (line ∷ lines) other = if bytes_eq name other then line ∷ lines else m other

-- the map without lines at the name
abbrev pub remove : LineMap → List ℕ → LineMap
remove m name other = if bytes_eq name other then [] else m other

-- the map after one step
abbrev pub after_step : LineMap → Step → LineMap
after_step m (Put e) = put m e.name (lines_of e.lines.items)
after_step m (Remove name) = remove m name

-- the map after the steps in order
abbrev pub run : LineMap → List Step → LineMap
run m [] = m
run m (step ∷ steps) = run (after_step m step) steps

-- the step is a `Remove` of the name, or a `Put` under it of at least one line
abbrev pub touches : List ℕ → Step → Bool
touches name (Put e) = bytes_eq e.name name && nat_lt 0 (length e.lines.items)
touches name (Remove other) = bytes_eq other name

-- the step's own name
abbrev pub step_name : Step → List ℕ
step_name (Put e) = e.name
step_name (Remove name) = name

-- the step is one of another name
abbrev pub IsOfOther : List ℕ → Step → Type 0
IsOfOther name step = step_name step ≢ name

-- the last step that touches the name, if one does
abbrev pub last_step : List Step → List ℕ → Option Step
last_step steps name = find (touches name) (reverse steps)

-- the lines that a step leaves at a name that it changes
abbrev pub lines_left : Step → List Line
lines_left (Put e) = lines_of e.lines.items
lines_left (Remove name) = []

-- what the last step that changes the name left there, or what the map has there if none does
abbrev pub last : LineMap → List Step → LineMap
last m steps name = option_map_or lines_left (last_step steps name) (m name)

-- a field: its name and its field lines; none means that the field is absent
abbrev pub Field : Type 0
Field = List ℕ × List Line

abbrev pub field_of : Encoded → Field
field_of e = (e.name, lines_of e.lines.items)

abbrev pub fields_of : List Encoded → List Field
fields_of fields = map field_of fields

-- the map where the field's lines replace those under its name
abbrev pub set : LineMap → Field → LineMap
set m field other = if bytes_eq field.0 other then field.1 else m other

-- the map after each field in order
abbrev pub set_all : LineMap → List Field → LineMap
set_all m [] = m
set_all m (field ∷ fields) = set_all (set m field) fields

-- the field is one of another name
abbrev pub IsFieldOfOther : List ℕ → Encoded → Type 0
IsFieldOfOther name e = e.name ≢ name

-- the step that sets a field: it removes the name if there is no line
abbrev pub setting : Encoded → Step
setting e = if nat_lt 0 (length e.lines.items) then Put e else Remove e.name

-- the steps that set these fields
abbrev pub settings : List Encoded → List Step
settings fields = map setting fields
