-- The header `cache-control`: flags and numbers, by the entries of all field lines.
use Rattle.std.specs.Prelude.{◌≡◌, ℕ, ◌*◌, option_map, Bool, false, ◌&&◌, ◌||◌, not, ◌==◌, List, [], ◌∷◌, ◌++◌, length}
use Rattle.std.specs.Prelude.{filter, Option, Some, None, is_none, codes, decimal, if◌then◌else◌}
use Rattle.std.specs.List.{AllByRecursion, list_any, last_or, flat_map, before_first, after_first}
use Rattle.std.{specs.Option.option_and_then, specs.Duration.as_nanos, specs.declared.time.Duration.Duration}
use Rattle.headers_syntax.{specs.Lines.Line, specs.Number.number, specs.AsciiCase.same_name, specs.Text.without_quotes}
use Rattle.headers_items.{specs.Merge.merge, specs.Entries.entries, specs.Pairs.is_equals, specs.Places.comma}

-- the flags and the numbers that are set (RFC 9111, section 5.2, and RFC 8246)
pub record Directives : Type 0 where
  pub no_cache : Bool
  pub no_store : Bool
  pub no_transform : Bool
  pub only_if_cached : Bool
  pub must_revalidate : Bool
  pub public : Bool
  pub private : Bool
  pub immutable : Bool
  pub must_understand : Bool
  pub proxy_revalidate : Bool
  pub max_age : Option ℕ
  pub max_stale : Option ℕ
  pub min_fresh : Option ℕ
  pub s_max_age : Option ℕ

-- the flags and the numbers with their names, in the order in which they are printed
abbrev pub flag_rows : List (List ℕ × (Directives → Bool))
flag_rows =
    (codes "no-cache", λ d. d.no_cache)
    ∷ (codes "no-store", λ d. d.no_store)
    ∷ (codes "no-transform", λ d. d.no_transform)
    ∷ (codes "only-if-cached", λ d. d.only_if_cached)
    ∷ (codes "must-revalidate", λ d. d.must_revalidate)
    ∷ (codes "public", λ d. d.public)
    ∷ (codes "private", λ d. d.private)
    ∷ (codes "immutable", λ d. d.immutable)
    ∷ (codes "must-understand", λ d. d.must_understand)
    ∷ (codes "proxy-revalidate", λ d. d.proxy_revalidate)
    ∷ []

abbrev pub number_rows : List (List ℕ × (Directives → Option ℕ))
number_rows =
    (codes "max-age", λ d. d.max_age)
    ∷ (codes "max-stale", λ d. d.max_stale)
    ∷ (codes "min-fresh", λ d. d.min_fresh)
    ∷ (codes "s-maxage", λ d. d.s_max_age)
    ∷ []

-- a duration of this many seconds, if there is a number
abbrev pub GivesSeconds : Option Duration → Option ℕ → Type 0
GivesSeconds duration number = option_map as_nanos duration ≡ option_map (λ seconds. seconds * 1_000_000_000) number

-- an entry carries a directive if the slice before its first `=` is the directive's name, and the slice after it
-- isn't empty
abbrev pub carries : List ℕ → List ℕ → Bool
carries directive entry =
    same_name (before_first is_equals entry) directive && not (length (after_first is_equals entry) == 0)

-- the number after the first `=`, in quotes or not
abbrev pub number_in : List ℕ → Option ℕ
number_in entry = number (without_quotes (after_first is_equals entry))

-- an entry is bad for a directive that it carries without a number
abbrev pub is_bad_for : List ℕ → List ℕ → Bool
is_bad_for directive entry = carries directive entry && is_none (number_in entry)

-- an entry is bad if it is bad for some directive that has a number
abbrev pub is_bad : List ℕ → Bool
is_bad entry = list_any (λ row. is_bad_for row.0 entry) number_rows

-- some entry is the flag's name
abbrev pub is_set : List ℕ → List (List ℕ) → Bool
is_set flag es = list_any (λ entry. same_name entry flag) es

-- the number in the last entry that carries the directive
abbrev pub last_number : List ℕ → List (List ℕ) → Option ℕ
last_number directive es = option_and_then number_in (last_or None (filter (carries directive) es))

-- the step makes the new value of each directive of its old one
abbrev pub Steps : {V : Type 0} → (List ℕ → V → V) → List (List ℕ × (Directives → V)) → Directives → Directives → Type 0
Steps step rows old new = AllByRecursion (λ row. row.1 new ≡ step row.0 (row.1 old)) rows

-- a flag, and a number, after one more entry
abbrev pub next_flag : List ℕ → List ℕ → Bool → Bool
next_flag entry flag before = before || same_name entry flag

abbrev pub next_number : List ℕ → List ℕ → Option ℕ → Option ℕ
next_number entry directive before = if carries directive entry then number_in entry else before

-- the directives of a list of entries
abbrev pub directives : List (List ℕ) → Directives
directives es =
    record {
      no_cache = is_set (codes "no-cache") es;
      no_store = is_set (codes "no-store") es;
      no_transform = is_set (codes "no-transform") es;
      only_if_cached = is_set (codes "only-if-cached") es;
      must_revalidate = is_set (codes "must-revalidate") es;
      public = is_set (codes "public") es;
      private = is_set (codes "private") es;
      immutable = is_set (codes "immutable") es;
      must_understand = is_set (codes "must-understand") es;
      proxy_revalidate = is_set (codes "proxy-revalidate") es;
      max_age = last_number (codes "max-age") es;
      max_stale = last_number (codes "max-stale") es;
      min_fresh = last_number (codes "min-fresh") es;
      s_max_age = last_number (codes "s-maxage") es;
    }

-- no entry is bad, and these are the directives of the entries
abbrev pub Direct : List (List ℕ) → Directives → Type 0
Direct es d = (d ≡ directives es) × (list_any is_bad es ≡ false)

-- the directives of the field lines' entries, if no entry is bad
abbrev pub directives_of : List Line → Option Directives
directives_of lines = if list_any is_bad (entries lines) then None else Some (directives (entries lines))

-- a flag that is set is encoded as its name
abbrev pub print_flag : List ℕ → Bool → List (List ℕ)
print_flag flag set = if set then flag ∷ [] else []

-- a number that is set is encoded in decimal after its name and `=`
abbrev pub print_number : List ℕ → Option ℕ → List (List ℕ)
print_number directive None = []
print_number directive (Some n) = (directive ++ 61 ∷ decimal n) ∷ []

-- all directives that are encoded
abbrev pub printed : Directives → List (List ℕ)
printed d = flat_map (λ row. print_flag row.0 (row.1 d)) flag_rows
    ++ flat_map (λ row. print_number row.0 (row.1 d)) number_rows

-- they are joined by a comma and a space; the field line is empty if no directive is set
abbrev pub lines_of_directives : Directives → List Line
lines_of_directives d = merge comma (printed d) ∷ []
