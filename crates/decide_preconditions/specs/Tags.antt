-- Entity tags in a request (RFC 9110, sections 8.8.3, 13.1.1 and 13.1.2).
use Rattle.std.specs.{Prelude.{Bool, false, ◌&&◌, ◌||◌, not, List, Option, Some, None, bytes_eq}, List.list_all}
use Rattle.{std.specs.{List.list_any, Option.option_map_or}, http_header.specs.FieldValue.FieldValue}
use Rattle.rfc_fields.specs.{Members.field_members, Scan.{Member, Member.{Whole, Malformed}}}
use Rattle.headers.specs.{EntityTag.{is_tag, parts_of}, EntityTagRange.star, Lines.{Line, only_line}}
use Rattle.decide_preconditions.specs.declared.resource.TargetState.{TargetState, TheVariants.{Missing, Current}}
use Rattle.decide_preconditions.specs.declared.tags.Comparison.{Comparison, TheVariants.{Strong, Weak}}

-- Both are entity tags, and their opaque parts are equal; in the strong comparison neither is weak (section 8.8.3.2).
abbrev pub are_equal : Comparison → Line → Line → Bool
are_equal Strong a b =
    (is_tag a && is_tag b) && ((not (parts_of a).is_weak && not (parts_of b).is_weak)
    && bytes_eq (parts_of a).opaque (parts_of b).opaque)
are_equal Weak a b = (is_tag a && is_tag b) && bytes_eq (parts_of a).opaque (parts_of b).opaque

-- the text is equal to the tag of a representation that has one
abbrev pub is_tag_of : Comparison → Option FieldValue → Line → Bool
is_tag_of comparison None text = false
is_tag_of comparison (Some etag) text = are_equal comparison text etag.bytes

-- ---- a field of If-Match or If-None-Match

-- the field is `*` alone
abbrev pub is_star : List Line → Bool
is_star lines = option_map_or (λ line. bytes_eq line star) (only_line lines) false

abbrev pub is_tag_member : Member → Bool
is_tag_member (Whole text) = is_tag text
is_tag_member Malformed = false

abbrev pub is_equal_member : Comparison → Option FieldValue → Member → Bool
is_equal_member comparison etag (Whole text) = is_tag_of comparison etag text
is_equal_member comparison etag Malformed = false

-- each member of each line is an entity tag, whose opaque part may have bytes outside ASCII
abbrev pub are_tags : List Line → Bool
are_tags lines = list_all is_tag_member (field_members false lines)

-- some member is equal to the tag of the representation
abbrev pub lists : Comparison → Option FieldValue → List Line → Bool
lists comparison etag lines = list_any (is_equal_member comparison etag) (field_members false lines)

-- the field is neither `*` nor a list of entity tags
abbrev pub is_malformed : List Line → Bool
is_malformed lines = not (is_star lines) && not (are_tags lines)

-- the field matches the current representation: it is `*`, or a list with its tag
abbrev pub names : Comparison → List Line → TargetState → Bool
names comparison lines Missing = false
names comparison lines (Current validators) =
    is_star lines || (are_tags lines && lists comparison validators.etag lines)

-- the field matches the current representation, or is malformed and so may match it
abbrev pub may_name : Comparison → List Line → TargetState → Bool
may_name comparison lines Missing = false
may_name comparison lines (Current validators) =
    is_malformed lines || (is_star lines || lists comparison validators.etag lines)
