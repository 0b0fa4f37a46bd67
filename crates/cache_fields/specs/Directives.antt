-- What Cache-Control directs (RFC 9111, section 5.2, and RFC 5861).
use Rattle.std.specs.Prelude.{◌≡◌, ℕ, Bool, true, false, ◌&&◌, ◌||◌, List, [], ◌∷◌, Any, Option, Some, None, IsSomeAnd}
use Rattle.std.specs.Prelude.{IsTrue, option_and_then, option_map, unwrap_or, codes, if◌then◌else◌, is_none, is_some}
use Rattle.{std.specs.Option.{option_map_or, option_or}, headers_map.specs.LineMap.LineMap}
use Rattle.rfc_fields.specs.{Directives.{DirectiveParts, directive_in, is_named}, Members.field_members}
use Rattle.rfc_fields.specs.{Numbers.number_within, Scan.{Member, Member.{Whole, Malformed}}, Values.octets_of}
use Rattle.cache_fields.specs.{Fields.greatest, declared.directives.Directives.Directives}

-- the members of the field in all its lines, each line by itself
abbrev pub members : LineMap → List Member
members message = field_members true (message (codes "cache-control"))

-- the directive that a member is
abbrev pub said_in : Member → Option DirectiveParts
said_in (Whole text) = directive_in text
said_in Malformed = None

-- The seconds of a directive: those of its argument, `bad` if that is no number, and `bare` without one. A token and a
-- quoted-string mean the same octets (section 5.2).
abbrev pub seconds_in : ℕ → ℕ → DirectiveParts → ℕ
seconds_in bare bad directive =
    option_map_or (λ value. unwrap_or (number_within greatest (octets_of value)) bad) directive.argument bare

-- the seconds of the directive if it has that name
abbrev pub seconds_if : List ℕ → ℕ → ℕ → DirectiveParts → Option ℕ
seconds_if name bare bad directive = if is_named name directive then Some (seconds_in bare bad directive) else None

-- it is the directive of that name, without an argument, or with one
abbrev pub is_alone : List ℕ → DirectiveParts → Bool
is_alone name directive = is_named name directive && is_none directive.argument

abbrev pub is_argued : List ℕ → DirectiveParts → Bool
is_argued name directive = is_named name directive && is_some directive.argument

-- no response is used without asking the origin
abbrev pub asks_always : DirectiveParts → Bool
asks_always directive = is_named (codes "no-cache") directive || is_argued (codes "must-revalidate") directive

-- nothing is stored
abbrev pub stores_nothing : DirectiveParts → Bool
stores_nothing directive = is_named (codes "no-store") directive || is_argued (codes "must-understand") directive

-- nothing is directed
abbrev pub nothing : Directives
nothing =
    record {
      no_cache = false;
      no_store = false;
      only_if_cached = false;
      must_revalidate = false;
      proxy_revalidate = false;
      must_understand = false;
      public = false;
      private = false;
      immutable = false;
      max_age = None;
      s_max_age = None;
      max_stale = None;
      min_fresh = None;
      stale_while_revalidate = None;
      stale_if_error = None;
    }

-- `no-cache, no-store, private, must-revalidate, max-age=0`: nothing is stored, and nothing is served that the origin
-- wasn't asked about
abbrev pub strictest : Directives
strictest =
    record nothing { no_cache = true; no_store = true; must_revalidate = true; private = true; max_age = Some 0 }

-- What one directive directs. `private` and `no-cache` that name fields count as if they named none, which a cache may
-- do (sections 5.2.2.4 and 5.2.2.7). A number that is missing or isn't one is the strictest: the response is stale at
-- once, and the request takes no other (section 4.2.1). Only `max-stale` may stand without a number (section 5.2.1.2):
-- any staleness will do. Where no argument is defined, a directive that has one permits nothing, and forbids what it
-- does without one. So of those that do both, `must-revalidate` (sections 3.5 and 5.2.2.2) is then a `no-cache`, and
-- `must-understand` (section 5.2.2.3) a `no-store`. Arguments of `immutable` are ignored (RFC 8246, section 2).
abbrev pub directs : DirectiveParts → Directives
directs directive =
    record {
      no_cache = asks_always directive;
      no_store = stores_nothing directive;
      only_if_cached = is_named (codes "only-if-cached") directive;
      must_revalidate = is_alone (codes "must-revalidate") directive;
      proxy_revalidate = is_named (codes "proxy-revalidate") directive;
      must_understand = is_alone (codes "must-understand") directive;
      public = is_alone (codes "public") directive;
      private = is_named (codes "private") directive;
      immutable = is_named (codes "immutable") directive;
      max_age = seconds_if (codes "max-age") 0 0 directive;
      s_max_age = seconds_if (codes "s-maxage") 0 0 directive;
      max_stale = seconds_if (codes "max-stale") greatest 0 directive;
      min_fresh = seconds_if (codes "min-fresh") greatest greatest directive;
      stale_while_revalidate = seconds_if (codes "stale-while-revalidate") 0 0 directive;
      stale_if_error = seconds_if (codes "stale-if-error") 0 0 directive;
    }

-- what both direct; of two numbers the first counts (section 4.2.1)
abbrev pub with_later : Directives → Directives → Directives
with_later first later =
    record {
      no_cache = first.no_cache || later.no_cache;
      no_store = first.no_store || later.no_store;
      only_if_cached = first.only_if_cached || later.only_if_cached;
      must_revalidate = first.must_revalidate || later.must_revalidate;
      proxy_revalidate = first.proxy_revalidate || later.proxy_revalidate;
      must_understand = first.must_understand || later.must_understand;
      public = first.public || later.public;
      private = first.private || later.private;
      immutable = first.immutable || later.immutable;
      max_age = option_or first.max_age later.max_age;
      s_max_age = option_or first.s_max_age later.s_max_age;
      max_stale = option_or first.max_stale later.max_stale;
      min_fresh = option_or first.min_fresh later.min_fresh;
      stale_while_revalidate = option_or first.stale_while_revalidate later.stale_while_revalidate;
      stale_if_error = option_or first.stale_if_error later.stale_if_error;
    }

-- what some directives direct
abbrev pub directed_by : List DirectiveParts → Directives
directed_by [] = nothing
directed_by (directive ∷ others) = with_later (directs directive) (directed_by others)

-- the directives that the members are, if each of them is one
abbrev pub all_said : List Member → Option (List DirectiveParts)
all_said [] = Some []
all_said (member ∷ others) =
    option_and_then (λ directive. option_map (λ rest. directive ∷ rest) (all_said others)) (said_in member)

-- If some member is no directive, the field directs as strictly as it can.
abbrev pub directed_by_members : List Member → Directives
directed_by_members all = option_map_or directed_by (all_said all) strictest

-- what the field of a message directs; without a line nothing is directed
abbrev pub directed : LineMap → Directives
directed message = directed_by_members (members message)

-- some member of the field is no directive: a line is malformed, or what stands between two commas is
abbrev pub IsMalformed : LineMap → Type 0
IsMalformed message = Any (λ member. said_in member ≡ None) (members message)

-- some member of the field is the directive of this name
abbrev pub Says : List ℕ → LineMap → Type 0
Says name message =
    Any (λ member. IsSomeAnd (said_in member) (λ directive. IsTrue (is_named name directive))) (members message)
