-- The entity tags in a condition, or `*` (RFC 9110, sections 13.1.1 and 13.1.2).
use Rattle.std.specs.Prelude.{⊤, ℕ, List, [], ◌∷◌, Some, codes, Any, bytes_eq, if◌then◌else◌}
use Rattle.headers_syntax.{specs.EntityTag.{TagParts, AreTags}, specs.HeaderLaws.Grammar}
use Rattle.headers_items.{specs.Places.{comma, items}, specs.Merge.merge}
use Rattle.headers_core.specs.declared.entity_tag_range.EntityTagRange.{EntityTagRange}
use Rattle.headers_core.specs.declared.entity_tag_range.EntityTagRange.TheVariants as range

-- the byte that means any tag
abbrev pub star : List ℕ
star = codes "*"

-- some item of the value is a tag that R relates to the other tag; items that are no tag are ignored
abbrev pub HasItem : (TagParts → TagParts → Type 0) → List ℕ → List ℕ → Type 0
HasItem R value tag = Any (λ item. AreTags R item tag) (items comma value)

-- what a value encodes: any tag if it is the one byte `*`, else the tags that it lists
abbrev pub range_of : List ℕ → EntityTagRange
range_of value = if bytes_eq value star then range.Any else range.Tags value

-- the encoding of a range
abbrev pub range_text : EntityTagRange → List ℕ
range_text range.Any = star
range_text (range.Tags tags) = tags

-- the range is any tag, or has a tag that R relates to the other tag
abbrev pub Matches : (TagParts → TagParts → Type 0) → EntityTagRange → List ℕ → Type 0
Matches R range.Any tag = ⊤
Matches R (range.Tags tags) tag = HasItem R tags tag

-- all field lines, joined by a comma and a space; none are rejected
abbrev pub tags_grammar : Grammar EntityTagRange EntityTagRange
tags_grammar =
    record {
      kept = λ tags. tags;
      value_of = λ lines. Some (range_of (merge comma lines));
      lines_of_value = λ tags. range_text tags ∷ [];
    }
