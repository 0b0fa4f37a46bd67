-- What governs a response in a cache that has a list of targeted fields (RFC 9213).
use Rattle.std.specs.Prelude.{ℕ, Bool, true, false, List, [], ◌∷◌, ◌++◌, Option, Some, None, option_and_then}
use Rattle.std.specs.{Prelude.{option_map, bytes_eq, codes, if◌then◌else◌, unwrap_or}, Option.option_map_or}
use Rattle.{std.specs.Option.option_or, headers_map.specs.LineMap.LineMap, headers_syntax.specs.{Lines.Line, Text.trim}}
use Rattle.{rfc_fields.specs.Numbers.number_within, rfc_values.specs.Dictionaries.{MemberParts, dictionary}}
use Rattle.rfc_values.specs.Items.{ValueParts, ValueParts.{Integer, Boolean, Text, Other}}
use Rattle.cache_fields.specs.{Directives.nothing, Fields.greatest, Freshness.by_itself}
use Rattle.cache_fields.specs.declared.{directives.Directives.Directives, governing.Governing.Governing}

-- ---- one member (section 2.1)

-- A directive without an argument is true. One that is false, or has another type, isn't there.
abbrev pub is_true : ValueParts → Bool
is_true (Integer text) = false
is_true (Boolean is) = is
is_true (Text text) = false
is_true Other = false

-- `no-cache` and `private` may also name fields, in a string
abbrev pub is_true_or_named : ValueParts → Bool
is_true_or_named (Integer text) = false
is_true_or_named (Boolean is) = is
is_true_or_named (Text text) = true
is_true_or_named Other = false

-- The seconds of a directive, which are an integer: one below zero counts as 0. With another type the directive isn't
-- there.
abbrev pub seconds_of : ValueParts → Option ℕ
seconds_of (Integer text) = Some (unwrap_or (number_within greatest text) 0)
seconds_of (Boolean is) = None
seconds_of (Text text) = None
seconds_of Other = None

-- what a member makes of what the members before it say: of several with one key the last one counts (RFC 8941, section
-- 3.2)
abbrev pub replaced : {X : Type 0} → List ℕ → (ValueParts → X) → MemberParts → X → X
replaced name read member before = if bytes_eq member.key name then read member.value else before

-- Those of RFC 9111, RFC 5861 and RFC 8246 that a response may have.
abbrev pub with_member : Directives → MemberParts → Directives
with_member told member =
    record {
      no_cache = replaced (codes "no-cache") is_true_or_named member told.no_cache;
      no_store = replaced (codes "no-store") is_true member told.no_store;
      only_if_cached = told.only_if_cached;
      must_revalidate = replaced (codes "must-revalidate") is_true member told.must_revalidate;
      proxy_revalidate = replaced (codes "proxy-revalidate") is_true member told.proxy_revalidate;
      must_understand = replaced (codes "must-understand") is_true member told.must_understand;
      public = replaced (codes "public") is_true member told.public;
      private = replaced (codes "private") is_true_or_named member told.private;
      immutable = replaced (codes "immutable") is_true member told.immutable;
      max_age = replaced (codes "max-age") seconds_of member told.max_age;
      s_max_age = replaced (codes "s-maxage") seconds_of member told.s_max_age;
      max_stale = told.max_stale;
      min_fresh = told.min_fresh;
      stale_while_revalidate =
          replaced (codes "stale-while-revalidate") seconds_of member told.stale_while_revalidate;
      stale_if_error = replaced (codes "stale-if-error") seconds_of member told.stale_if_error;
    }

-- what some members say, behind what others said
abbrev pub told_after : Directives → List MemberParts → Directives
told_after told [] = told
told_after told (member ∷ members) = told_after (with_member told member) members

-- ---- one field

-- The members of all lines, if each line is a dictionary that isn't empty. A value that is split over two lines is
-- malformed, as RFC 8941, section 4.2, allows.
abbrev pub all_members : List Line → Option (List MemberParts)
all_members [] = Some []
all_members (line ∷ lines) =
    option_and_then (λ members. option_map (λ others. members ++ others) (all_members lines)) (dictionary (trim line))

-- the same of a field that is there
abbrev pub field_members : List Line → Option (List MemberParts)
field_members [] = None
field_members (line ∷ lines) = all_members (line ∷ lines)

-- what the field says, if it is valid and not empty
abbrev pub told_by : List Line → Option Directives
told_by lines = option_map (told_after nothing) (field_members lines)

-- ---- a response (section 2.2)

-- what the first of these fields says that is there, valid and not empty
abbrev pub told : List (List ℕ) → LineMap → Option Directives
told [] response = None
told (name ∷ names) response = option_or (told_by (response name)) (told names response)

-- That field governs the response in place of Cache-Control and Expires. Without one these do.
abbrev pub governing : List (List ℕ) → LineMap → Governing
governing targets response =
    option_map_or (λ directives. record { directives = directives; by_expires = false }) (told targets response)
    (by_itself response)
