-- The part of a representation that a request selects (RFC 9110, sections 13.1.5 and 14.2).
use Rattle.std.specs.Prelude.{◌≡◌, ◌↔◌, ◌⊎◌, ℕ, ◌+◌, ◌<◌, Bool, true, false, ◌&&◌, ◌==◌, List, length, Option, Some}
use Rattle.std.specs.Prelude.{None, Any, map, take, drop, bytes_eq, codes, nat_le, ⊤, if◌then◌else◌}
use Rattle.std.specs.{Char.to_ascii_lowercase, Option.{option_and_then, option_map_or}}
use Rattle.{rfc_values.specs.{Calendar.unix_epoch, Date.timestamp}, headers.specs.{EntityTag.is_tag, LineMap.LineMap}}
use Rattle.{headers.specs.Lines.Line, decide_preconditions.specs.{Conditions.only_text, Limits.are_too_many}}
use Rattle.decide_preconditions.specs.{Parts.{AreCoalesced, Holds, IsJoined}, RangeSets.{Covers, is_range_set, specs}}
use Rattle.decide_preconditions.specs.{Tags.is_tag_of, declared.{limits.RangeLimits.RangeLimits, part.Part.Part}}
use Rattle.decide_preconditions.specs.declared.{resource.Validators.Validators, selection.Selection.Selection}
use Rattle.decide_preconditions.specs.declared.selection.Selection.TheVariants.{Whole, Parts, Unsatisfiable}
use Rattle.decide_preconditions.specs.declared.tags.Comparison.TheVariants.{Strong}

-- `bytes=`, ignoring case (section 14.1)
abbrev pub has_bytes_unit : List ℕ → Bool
has_bytes_unit text = nat_le 6 (length text) && bytes_eq (map to_ascii_lowercase (take 6 text)) (codes "bytes=")

-- the range-set of a ranges-specifier (section 14.1.1), if its unit is bytes and it is valid
abbrev pub range_set_of : List ℕ → Option (List ℕ)
range_set_of text = if has_bytes_unit text && is_range_set (drop 6 text) then Some (drop 6 text) else None

-- The range-set that a request asks for: that of the only line of Range. Several lines are no ranges-specifier
-- together, and none of them counts.
abbrev pub set_asked : LineMap → Option (List ℕ)
set_asked request = option_and_then range_set_of (only_text (request (codes "range")))

-- the date, in seconds since the start of the year 0, is exactly the modification date
abbrev pub is_modified_at : Option ℕ → Option ℕ → Bool
is_modified_at None modified = false
is_modified_at (Some date) None = false
is_modified_at (Some date) (Some modified) = date == unix_epoch + modified

-- The condition of If-Range (section 13.1.5): the tags are strongly equal, or the date is a strong validator and
-- exactly that of the representation.
abbrev pub is_exactly : ℕ → Validators → Line → Bool
is_exactly present current text =
    if is_tag text then is_tag_of Strong current.etag text
    else current.is_date_strong && is_modified_at (timestamp present text) current.last_modified

-- If-Range is absent, or its only line is true; if it has several lines, it isn't
abbrev pub if_range_lets : ℕ → LineMap → Validators → Bool
if_range_lets present request current =
    if length (request (codes "if-range")) == 0 then true
    else option_map_or (is_exactly present current) (only_text (request (codes "if-range"))) false

module _ (present : ℕ) (method : List ℕ) (request : LineMap) (current : Validators) (len : ℕ) where
  -- Range applies to the request, and this is its range-set: the method is GET, the unit is bytes, the set is valid,
  -- If-Range is absent or true, and the representation has content
  pub record Applies (set : List ℕ) : Type 0 where
    pub is_get : method ≡ codes "GET"
    pub asked : set_asked request ≡ Some set
    pub if_range : if_range_lets present request current ≡ true
    pub content : 0 < len

-- some spec of the range-set covers position p of a representation of this length
abbrev pub IsAsked : ℕ → List ℕ → ℕ → Type 0
IsAsked len set p = Any (Covers len p) (specs set)

-- The parts are coalesced, and there is at least one. They contain exactly the requested positions, and those of gaps
-- that are too small to make two parts.
pub record ArePartsAsked (len gap : ℕ) (set : List ℕ) (parts : List Part) : Type 0 where
  pub coalesced : AreCoalesced len gap parts
  pub some : 0 < length parts
  pub covers : (p : ℕ) → Any (Holds p) parts ↔ IsJoined gap (IsAsked len set) p

module _ (present : ℕ) (method : List ℕ) (request : LineMap) (current : Validators) (len : ℕ)
    (limits : RangeLimits) where
  -- Range applies to the request, and asks for these parts
  pub record AsksFor (set : List ℕ) (parts : List Part) : Type 0 where
    pub applies : Applies present method request current len set
    pub asked : ArePartsAsked len limits.gap set parts

  -- Range doesn't apply to the request
  abbrev pub IsIgnored : Type 0
  IsIgnored = (set : List ℕ) → ¬ (Applies present method request current len set)

  -- Range asks for parts that are too many
  abbrev pub AsksForTooMany : Type 0
  AsksForTooMany = (set : List ℕ) × (parts : List Part) × AsksFor set parts × (are_too_many limits len parts ≡ true)

  -- The whole representation, if Range is absent or ignored, as section 14.2 allows for a set of many small ranges.
  -- Else the requested parts, or 416 if the representation has no requested position.
  abbrev pub Selects : Selection → Type 0
  Selects Whole = IsIgnored ⊎ AsksForTooMany
  Selects Unsatisfiable =
      (set : List ℕ) × Applies present method request current len set × ((p : ℕ) → ¬ (IsAsked len set p))
  Selects (Parts parts) =
      (set : List ℕ) × AsksFor set parts.items × (are_too_many limits len parts.items ≡ false)

  -- the whole is selected, or no position of it, or parts that aren't too many
  abbrev pub HasSelection : Type 0
  HasSelection = Selects Whole ⊎ (Selects Unsatisfiable
      ⊎ ((set : List ℕ) × (parts : List Part) × AsksFor set parts × (are_too_many limits len parts ≡ false)))

  -- Range applies, and asks for a position of the representation
  abbrev pub AsksForSome : Type 0
  AsksForSome =
      (set : List ℕ) × Applies present method request current len set × ((p : ℕ) × IsAsked len set p)

-- both are the same selection, with the same parts
abbrev pub IsSameSelection : Selection → Selection → Type 0
IsSameSelection Whole Whole = ⊤
IsSameSelection Unsatisfiable Unsatisfiable = ⊤
IsSameSelection (Parts xs) (Parts ys) = xs.items ≡ ys.items
IsSameSelection s t = ⊥
