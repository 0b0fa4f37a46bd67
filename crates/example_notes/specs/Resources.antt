-- The collection and its notes as resources.
use Rattle.std.specs.Prelude.{◌≡◌, ℕ, Bool, true, false, List, [], ◌∷◌, Option, Some, None, codes, length, map}
use Rattle.{std.specs.Prelude.option_map, http_header.specs.FieldValue.plain_value}
use Rattle.decide_resource.specs.declared.{representation.Representation.Representation, resource.Resource.Resource}
use Rattle.decide_resource.specs.declared.resource.State.{State}
use Rattle.decide_resource.specs.declared.resource.State.TheVariants as state
use Rattle.example_notes.{specs.Notes.tag_of, specs.declared.notes.Note.Note}

-- a text as a representation: JSON of its length, with its version as a strong tag, sent whole
pub record IsJsonOf (note : Note) (representation : Representation) : Type 0 where
  pub coding : representation.coding ≡ None
  pub language : representation.language ≡ None
  pub len : representation.content.len ≡ Some (length note.text)
  pub media_type : option_map (λ line. line.bytes) representation.content.media_type ≡ Some (codes "application/json")
  pub ranges : representation.content.ranges ≡ None
  pub tag : representation.validators ≡ record {
    etag = Some (plain_value (tag_of note.series note.version));
    last_modified = None;
    is_date_strong = false;
  }

-- what there is of a resource with this text, or without one
abbrev pub Represents : Option Note → State → List Representation → Type 0
Represents None is representations = (is ≡ state.Absent) × (representations ≡ [])
Represents (Some note) is representations =
    (is ≡ state.Current) × (r : Representation) × (representations ≡ r ∷ []) × IsJsonOf note r

-- the resource has these methods, each with whether it needs a precondition, and represents this text
pub record IsResource (methods : List (List ℕ × Bool)) (text : Option Note) (resource : Resource) : Type 0 where
  pub methods_are : map (λ rule. (rule.method, rule.needs_condition)) resource.rules.items ≡ methods
  pub represents : Represents text resource.state resource.representations.items

abbrev pub collection_methods : List (List ℕ × Bool)
collection_methods = (codes "GET", false) ∷ (codes "POST", false) ∷ []

abbrev pub note_methods : List (List ℕ × Bool)
note_methods = (codes "GET", false) ∷ (codes "PUT", true) ∷ (codes "DELETE", false) ∷ []
