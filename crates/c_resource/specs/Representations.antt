-- The representations of a resource, by what a caller hands in.
use Rattle.std.specs.Prelude.{◌≡◌, ◌⊎◌, ℕ, ◌≤◌, List, ◌∷◌, [], All, length, option_map, slice_get, Option, Some, None}
use Rattle.{std.specs.{Prelude.{Result, Ok, Err}, Global.Vec}, http_header.specs.FieldValue.{FieldValue, IsFieldValue}}
use Rattle.{headers.specs.Lines.{Line, lines_of}, decide_preconditions.specs.declared.content.Content.Content}
use Rattle.decide_preconditions.specs.declared.resource.Validators.{Validators}
use Rattle.decide_resource.specs.declared.representation.Representation.{Representation}
use Rattle.c_decisions.specs.{Contents.limits_of, Numbers.known, Rules.FindsOfLine, Targets.{IsDateOf, reads_etag}}
use Rattle.c_parts.specs.{FieldText.field_lines, declared.status.Failure.{Failure, TheVariants.Memory}}
use Rattle.c_resource.specs.Lists.{IsEachAt, IsListOf, filled_at}
use Rattle.c_resource.specs.declared.representation.RepresentationLists.{RepresentationLists}
use Rattle.c_resource.specs.declared.representation.RepresentationParts.{RepresentationParts}
use Rattle.c_resource.specs.declared.resource.ResourceParts.{ResourceParts}

-- the lines of all representations, each at the place of its own
pub record RepresentationLines : Type 0 where
  pub media_types : List Line
  pub languages : List Line
  pub codings : List Line
  pub etags : List Line

-- the bytes of a value, if there is one
abbrev pub option_line : Option FieldValue → Option Line
option_line value = option_map (λ v. v.bytes) value

-- ---- the entity tag

-- the tag that a line is, or none without a line
abbrev pub IsTagOfLine : Option Line → Result (Option FieldValue) Failure → Type 0
IsTagOfLine None (Ok tag) = tag ≡ None
IsTagOfLine (Some line) (Ok None) = ⊥
IsTagOfLine (Some line) (Ok (Some tag)) = reads_etag (line ∷ []) tag
IsTagOfLine None (Err failure) = ⊥
IsTagOfLine (Some line) (Err failure) = FindsOfLine (reads_etag (line ∷ [])) (Err failure)

abbrev pub IsTagAt : List Line → ℕ → Result (Option FieldValue) Failure → Type 0
IsTagAt etags place result = IsTagOfLine (filled_at etags place) result

-- ---- a representation

pub record IsContent (media_types : List Line) (place : ℕ) (parts : RepresentationParts) (content : Content)
    : Type 0 where
  pub len : content.len ≡ known parts.has_length parts.length
  pub media_type : option_line content.media_type ≡ filled_at media_types place
  pub ranges : content.ranges ≡ limits_of parts.sends_ranges

pub record AreValidators (etags : List Line) (place : ℕ) (parts : RepresentationParts) (validators : Validators)
    : Type 0 where
  pub etag : IsTagAt etags place (Ok validators.etag)
  pub last_modified : IsDateOf parts.has_last_modified parts.last_modified (Ok validators.last_modified)
  pub is_date_strong : validators.is_date_strong ≡ parts.is_date_strong

-- the tag or the date can't be read
abbrev pub FailsAtValidators : List Line → ℕ → RepresentationParts → Failure → Type 0
FailsAtValidators etags place parts failure =
    IsTagAt etags place (Err failure) ⊎ IsDateOf parts.has_last_modified parts.last_modified (Err failure)

abbrev pub IsValidatorsAnswer : List Line → ℕ → RepresentationParts → Result Validators Failure → Type 0
IsValidatorsAnswer etags place parts (Ok validators) = AreValidators etags place parts validators
IsValidatorsAnswer etags place parts (Err failure) = FailsAtValidators etags place parts failure

-- the representation that these lines and numbers describe, at this place
pub record IsRepresentation (lines : RepresentationLines) (place : ℕ) (parts : RepresentationParts)
    (representation : Representation) : Type 0 where
  pub coding : option_line representation.coding ≡ filled_at lines.codings place
  pub language : option_line representation.language ≡ filled_at lines.languages place
  pub content : IsContent lines.media_types place parts representation.content
  pub validators : AreValidators lines.etags place parts representation.validators

-- out of memory, or the tag or the date can't be read
abbrev pub FailsAtRepresentation : RepresentationLines → ℕ → RepresentationParts → Failure → Type 0
FailsAtRepresentation lines place parts failure =
    (failure ≡ Memory) ⊎ FailsAtValidators lines.etags place parts failure

abbrev pub IsRepresentationAnswer : RepresentationLines → ℕ → RepresentationParts → Result Representation Failure
    → Type 0
IsRepresentationAnswer lines place parts (Ok representation) = IsRepresentation lines place parts representation
IsRepresentationAnswer lines place parts (Err failure) = FailsAtRepresentation lines place parts failure

-- ---- all of them

module _ (lines : RepresentationLines) (numbers : List RepresentationParts) where
  abbrev pub IsRepresentationAt : ℕ → Representation → Type 0
  IsRepresentationAt place representation =
      (parts : RepresentationParts)
      × (slice_get numbers place ≡ Some parts)
      × IsRepresentation lines place parts representation

  -- one for each place, in order
  abbrev pub AreRepresentations : List Representation → Type 0
  AreRepresentations representations = IsEachAt IsRepresentationAt (length numbers) representations

  -- one of them can't be read
  abbrev pub FailsAtSome : Failure → Type 0
  FailsAtSome failure =
      (place : ℕ) × (parts : RepresentationParts) × (slice_get numbers place ≡ Some parts)
      × FailsAtRepresentation lines place parts failure

  abbrev pub AreRepresentationsRead : Result (Vec Representation) Failure → Type 0
  AreRepresentationsRead (Ok representations) = AreRepresentations representations.items
  AreRepresentationsRead (Err failure) = FailsAtSome failure

-- the lines that were read
abbrev pub lines_by : RepresentationLists → RepresentationLines
lines_by lists =
    record {
      media_types = lines_of lists.media_types.items;
      languages = lines_of lists.languages.items;
      codings = lines_of lists.codings.items;
      etags = lines_of lists.etags.items;
    }

-- the lines that were handed in
abbrev pub lines_given : ResourceParts → RepresentationLines
lines_given given =
    record {
      media_types = field_lines given.media_types.now;
      languages = field_lines given.languages.now;
      codings = field_lines given.codings.now;
      etags = field_lines given.etags.now;
    }

-- a text of lines that can be field lines, and are no more than there are representations
abbrev pub IsLineEach : List RepresentationParts → List ℕ → Type 0
IsLineEach numbers text = All IsFieldValue (field_lines text) × (length (field_lines text) ≤ length numbers)

-- the representations are those that were handed in
pub record AreRepresentationsOf (given : ResourceParts) (numbers : List RepresentationParts)
    (representations : List Representation) : Type 0 where
  pub media_types : IsLineEach numbers given.media_types.now
  pub languages : IsLineEach numbers given.languages.now
  pub codings : IsLineEach numbers given.codings.now
  pub etags : IsLineEach numbers given.etags.now
  pub are_representations : AreRepresentations (lines_given given) numbers representations

-- the failure is that of reading one of the texts, or a representation
abbrev pub FailsAtRepresentations : ResourceParts → List RepresentationParts → Failure → Type 0
FailsAtRepresentations given numbers failure =
    IsListOf (length numbers) given.media_types.now (Err failure)
    ⊎ (IsListOf (length numbers) given.languages.now (Err failure)
    ⊎ (IsListOf (length numbers) given.codings.now (Err failure)
    ⊎ (IsListOf (length numbers) given.etags.now (Err failure)
    ⊎ FailsAtSome (lines_given given) numbers failure)))

abbrev pub IsRepresentationsAnswer : ResourceParts → List RepresentationParts → Result (Vec Representation) Failure
    → Type 0
IsRepresentationsAnswer given numbers (Ok representations) = AreRepresentationsOf given numbers representations.items
IsRepresentationsAnswer given numbers (Err failure) = FailsAtRepresentations given numbers failure
