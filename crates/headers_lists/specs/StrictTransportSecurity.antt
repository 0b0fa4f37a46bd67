-- The header `strict-transport-security`: an age, and whether subdomains are included.
use Rattle.std.specs.Prelude.{ℕ, Bool, ◌&&◌, nat_le, List, [], ◌++◌, filter, count_by, option_map, Option, None, codes}
use Rattle.std.{specs.Prelude.{decimal, if◌then◌else◌}, specs.List.{list_any, before_first, after_first}}
use Rattle.std.specs.Option.{option_and_then}
use Rattle.headers_syntax.{specs.Lines.{Line, only_line}, specs.Number.number, specs.Text.{trim, without_quotes}}
use Rattle.headers_syntax.{specs.Parts.parts, specs.AsciiCase.same_name}
use Rattle.headers_items.{specs.Pairs.is_equals, specs.Places.semicolon}

-- for how many seconds a host may be reached only by secure transport, and whether its subdomains are included (RFC
-- 6797, section 6.1)
pub record TransportSecurity : Type 0 where
  pub include_subdomains : Bool
  pub max_age : ℕ

-- a part is `includeSubdomains`, in any case
abbrev pub names_subdomains : List ℕ → Bool
names_subdomains part = same_name part (codes "includeSubdomains")

-- a part is an age if it has an `=`, and what is before the first one is `max-age`, in any case
abbrev pub carries_age : List ℕ → Bool
carries_age part = list_any is_equals part && same_name (trim (before_first is_equals part)) (codes "max-age")

-- the number after the first `=`, in quotes or not
abbrev pub age_in : List ℕ → Option ℕ
age_in part = number (without_quotes (trim (after_first is_equals part)))

-- At most one part is `includeSubdomains`, exactly one is an age, and that age is a number. Other parts are ignored.
abbrev pub security_of : List (List ℕ) → Option TransportSecurity
security_of ps =
    if nat_le (count_by names_subdomains ps) 1
    then option_map (λ age. record { include_subdomains = list_any names_subdomains ps; max_age = age })
    (option_and_then age_in (only_line (filter carries_age ps)))
    else None

-- a field line is cut at every semicolon, in quotes or not
abbrev pub read_security : Line → Option TransportSecurity
read_security line = security_of (parts semicolon line)

-- the age, and then `includeSubdomains` if it is set
abbrev pub print_security : TransportSecurity → Line
print_security s =
    codes "max-age=" ++ (decimal s.max_age ++ (if s.include_subdomains then codes "; includeSubdomains" else []))
